-- One law for each way in which the code returns, and for the turns of its loops. Assumes nothing.
use Prim.Native.Nat.{ℕ, ◌-◌, ◌≤◌}
use mathlib.Core.Path.{◌≡◌, sym, subst}
use mathlib.Core.Bool.{true, false}
use mathlib.Core.List.{List, [], ◌∷◌}
use native.Mathlib.Omega.{arith}
use borrow.Author.Tests.{ne_eqb}
use lib.ListN.{length, take, drop, length-take}
use Rattle.std.specs.Prelude.{Result, Ok, Err}
use Rattle.refusal.specs.Refusals.{number_of}
use Rattle.refusal.proofs.Laws.{number-pos}
use Rattle.arena.specs.Memory.{Memory, Did, did, right_lengths}
use Rattle.card_stream.specs.Cuts.{arrived}
use Rattle.card_fields.specs.declared.Fields.{Fields}
use Rattle.card_fields.specs.Step.{step}
use Rattle.card_fields.specs.Fits.{Fits}
use Rattle.card_fields.proofs.Small.{Safe, step-safe}
use Rattle.index_put.specs.declared.PutRefused.{PutRefused}
use Rattle.index_put.specs.declared.PutRefused.TheVariants as put_no
use Rattle.model.specs.Calls.{put_lent}
use Rattle.index_put.specs.Answers.{said_added}
use Rattle.map_loads.specs.Loads.{and_put}
use Rattle.card_filing.specs.Filing.{Both, entered, step_putting}

-- ---- right lengths stay

pub right_kept : {a b c a' b' c' : ℕ} → right_lengths a b c ≡ true → a' ≡ a → b' ≡ b → c' ≡ c → right_lengths a' b' c' ≡ true
right_kept y p q r = rw (p, q, r) y

-- ---- the next put

module _ (d : Memory) (e : List ℕ × ℕ) where
  pub put_on : {added : Result ℕ PutRefused} {resting : ℕ} → added ≡ Ok resting → {r : Did}
      → r ≡ put_lent d e.0 e.1 → r ≡ and_put put_lent (did (said_added added) d) e
  unfolding and_put
  put_on w q = rw w q

  pub put_refused : {added : Result ℕ PutRefused} (why : PutRefused) → added ≡ Err why
      → did (said_added (Err why)) d ≡ and_put put_lent (did (said_added added) d) e
  unfolding and_put
  put_refused (put_no.TooFewNodes n) w = rw w
  put_refused (put_no.Refused why) w = rw (w, ne_eqb (number_of why) 0 (omega (arith, number-pos why)))

pub ruleset puts = (put_on, put_refused)

-- ---- one byte

pub entered-key : (key : List ℕ) (t : Fields) {k : List ℕ} → Fits t → k ≡ take (t.last - 1) key → length k ≤ 256
entered-key key t f e = rw (e, length-take) (omega (arith, f.named))

module _ (key : List ℕ) (t : Fields) (added : Result ℕ PutRefused) (m : Memory) where
  pub gained-put : {r : Did} {k : List ℕ} → t.got ≡ true → k ≡ take (t.last - 1) key
      → r ≡ and_put put_lent (did (said_added added) m) (k, t.frame) → r ≡ entered key t (did (said_added added) m)
  unfolding entered
  gained-put g q p = rw (g, ← q) p

  pub gained-none : t.got ≡ false → did (said_added added) m ≡ entered key t (did (said_added added) m)
  unfolding entered
  gained-none g = rw g

pub enter-done : (field key : List ℕ) (s : Fields) (d : Did) (byte : ℕ) {field' key' : List ℕ} {t : Fields} {d' : Did}
    → (field', key', t) ≡ step (field, key, s) byte → d' ≡ entered key' t d
    → ((field', key', t), d') ≡ step_putting ((field, key, s), d) byte
unfolding step_putting
enter-done field key s d byte e p = rw (← e, p)

-- ---- the machine's numbers stay small

-- the lent field and key, and where the machine stands
abbrev Sure : Both → Type 0
Sure p = Safe p.0

step-sure : (p : Both) (byte : ℕ) → Sure p → Sure (step_putting p byte)
unfolding step_putting
step-sure p byte h = step-safe p.0 byte h

all-sure : (bytes : List ℕ) (p : Both) → Sure p → Sure (arrived step_putting p bytes)
all-sure [] p h = h
all-sure (x ∷ bytes) p h = all-sure bytes (step_putting p x) (step-sure p x h)

module _ (field key : List ℕ) (s : Fields) (d : Did) {field' key' : List ℕ} {s' : Fields} {d' : Did} where
  pub one-fits : (byte : ℕ) → length field ≡ 256 → length key ≡ 256 → Fits s
      → ((field', key', s'), d') ≡ step_putting ((field, key, s), d) byte → Fits s'
  one-fits byte f k g n = subst (λ (p : Both). Fits p.0.2) (sym n) (step-sure ((field, key, s), d) byte (f, k, g)).2

  pub all_fit : (bytes : List ℕ) → length field ≡ 256 → length key ≡ 256 → Fits s
      → ((field', key', s'), d') ≡ arrived step_putting ((field, key, s), d) bytes → Fits s'
  all_fit bytes f k g n = subst (λ (p : Both). Fits p.0.2) (sym n) (all-sure bytes ((field, key, s), d) (f, k, g)).2

-- ---- the last key

module _ (key : List ℕ) (last : ℕ) where
  pub key-empty : last ≡ 0 → take (0 - 0) (drop 0 key) ≡ take (last - 1) key
  key-empty e = let z : last - 1 ≡ 0 = omega arith in rw z

  pub key-first : take (last - 1 - 0) (drop 0 key) ≡ take (last - 1) key
  key-first = let z : last - 1 - 0 ≡ last - 1 = omega arith in rw z
