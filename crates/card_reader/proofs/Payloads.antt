-- Laws on the blocks of an image: the loops over them, and what the writer's image holds. Assumes nothing.
use Prim.Native.Nat.{ℕ, suc, ◌+◌, ◌*◌, ◌-◌, ◌%◌, ◌^◌, ◌<◌, ◌≤◌}
use mathlib.Core.Path.{◌≡◌, sym, subst}
use mathlib.Core.Bool.{Bool, true, false, cond}
use mathlib.Core.List.{List, [], ◌∷◌}
use native.Mathlib.Omega.{arith}
use lib.ListN.{length, take, drop}
use Rattle.lent_words.proofs.Words.{between}
use Rattle.card_stream.specs.Cuts.{arrived}
use Rattle.card_block.specs.Check.{plus, check_of, good_block}
use Rattle.card_fields.specs.declared.Fields.{Fields}
use Rattle.card_fields.specs.Step.{State, step}
use Rattle.card_fields.specs.Fits.{Fits}
use Rattle.card_fields.proofs.Small.{Safe, step-safe}
use Rattle.card_stream.specs.Payload.{first_bad}

-- a block's number runs round as its sums do
pub good_round : (i : ℕ) (block : List ℕ) → good_block (i % 2 ^ 32) block ≡ good_block i block
unfolding good_block check_of
good_round i block = let e : plus (i % 2 ^ 32) 1 ≡ plus i 1 = omega arith in rw e

-- the search for a bad check: before the first block, behind a good one, at a bad one, behind the last
module _ (image : List ℕ) (n : ℕ) where
  pub bad-first : first_bad 0 (n - 0) image ≡ first_bad 0 n image
  bad-first = let e : n - 0 ≡ n = omega arith in rw e

  module _ (i : ℕ) {r : ℕ} (h : i < n) (e : first_bad i (n - i) image ≡ r) {b : Bool}
      (f : b ≡ good_block (i % 2 ^ 32) (take (512 * i + 512 - 512 * i) (drop (512 * i) image))) where
    bad-here : cond b (first_bad (i + 1) (n - (i + 1)) image) i ≡ r
    unfolding first_bad
    bad-here =
        let j : n - i ≡ suc (n - (i + 1)) = omega arith in
        rw (f, good_round, between image (512 * i) 512) (rw j at e)

    pub bad-next : b ≡ true → first_bad (i + 1) (n - (i + 1)) image ≡ r
    bad-next g = rw g at bad-here

    pub bad-found : b ≡ false → i ≡ r
    bad-found g = rw g at bad-here

  pub bad-none : (i : ℕ) {r : ℕ} → n ≤ i → first_bad i (n - i) image ≡ r → i ≡ r
  unfolding first_bad
  bad-none i h e = let j : n - i ≡ 0 = omega arith in rw j at e

-- the machine's numbers stay small
all-safe : (bytes : List ℕ) (t : State) → Safe t → Safe (arrived step t bytes)
all-safe [] t h = h
all-safe (x ∷ bytes) t h = all-safe bytes (step t x) (step-safe t x h)

pub after-fits : (bytes field key : List ℕ) (s : Fields) {field' key' : List ℕ} {s' : Fields} → length field ≡ 256 → length key ≡ 256
    → Fits s
    → (field', key', s') ≡ arrived step (field, key, s) bytes → Fits s'
after-fits bytes field key s f k g n = subst (λ (t : State). Fits t.2) (sym n) (all-safe bytes (field, key, s) (f, k, g)).2
