-- What the laws of returns, which hold for whatever holds a bank, ask of a wide bank that was judged. Assumes nothing.
use mathlib.Core.Path.{◌≡◌, refl, sym, ap, ◌∙◌}
use mathlib.Core.List.{List, [], ◌∷◌, ◌++◌}
use Prim.Native.Nat.{ℕ, ◌+◌, ◌-◌, ◌≤◌, ◌<◌}
use native.Mathlib.Omega.{arith}
use lib.ListN.{length, get_or, take, drop, replicate}
use borrow.Author.Rules.{rules}
use mathlib.Core.Bool.{true}
use Rattle.std.specs.Prelude.{Result, Ok, Err, IsErrAnd}
use Rattle.refusal.specs.Answer.{accepted}
use Rattle.refusal.specs.declared.Refusal.{Refusal}
use Rattle.bank.specs.Lists.{turned, swapped}
use Rattle.bank.specs.Bank.{width, slot_at, exchanged}
use Rattle.bank.specs.Calls.{Change, Question, from_value, insert_from_back, remove_to_back}
use Rattle.bank.specs.Judged.{judged_in}
use Rattle.std.specs.declared.ops.ControlFlow.{ControlFlow}
use Rattle.std.specs.declared.ops.ControlFlow.TheVariants.{Continue, Break}
use Rattle.std.specs.Result.{result_from_control_flow}
use Rattle.bank.proofs.Tried.{went_on, broke_off, passed_up}
use Rattle.bank.proofs.Returns.{returns, turned_bank, value-so, withdraw-so, insert-so}
use Rattle.bank.proofs.Judged.{width-good, held-valid, asked-refused, changed-refused}
use Rattle.bank.proofs.Making.{makings, empty-sorted}
use Rattle.wide_answers.specs.declared.Refused.{Refused}
use Rattle.wide_answers.specs.declared.HandedOut.{HandedOut}
use Rattle.wide_answers.specs.Wides.{with_bank, judged_back, changed, asked, made_sorted, made_empty}
use Rattle.wide_answers.specs.Answers.{said_changed, said_inserted, said_told}
use Rattle.wide_bytes.specs.Wide.{bank_of, bytes_of, good_width, valid_bytes, wides}
use Rattle.wide_bytes.proofs.Judging.{slots_length, slot-at, out_of_width, in_width}
use Rattle.wide_bytes.proofs.Bytes.{Good, good-valid, bytes-again, moved-again, swapped-again}

-- ---- the judgement, with the bank as given or without it

passed-with : (bank : List ℕ) (j : Result (Unit {0}) Refusal) → with_bank bank j ≡ Ok tt → j ≡ Ok tt
passed-with bank (Ok done) e = refl
passed-with bank (Err why) e = cc

refused-with : (bank : List ℕ) (j : Result (Unit {0}) Refusal) (r : Refused) → with_bank bank j ≡ Err r
    → (j ≡ Err r.why) × (r.bank ≡ bank)
refused-with bank (Ok done) r e = cc
refused-with bank (Err why) r e =
    let z : record { why = why; bank = bank } ≡ r = cc in
    (ap (λ (x : Refused). Err x.why) z, ap (λ (x : Refused). x.bank) (sym z))

-- the judgement passes: the bank may be used
abbrev pub Passes : ℕ → List ℕ → Type 0
Passes w bytes = judged_in (wides w) bytes ≡ Ok tt

module _ (w : ℕ) (bytes : List ℕ) where
  -- for a question: where it passes, and where it refuses and a `?` hands that up
  module _ {v : Result (Unit {0}) Refusal} (e : v ≡ judged_in (wides w) bytes) {flow : ControlFlow _ (Unit {0})}
      (b : v ≡ result_from_control_flow flow) where
    pub passes : {x : Unit {0}} → flow ≡ Continue x → Passes w bytes
    passes f = sym e ∙ went_on b f

    pub question-refused : {x : _} → flow ≡ Break x → (out : Result ℕ Refusal) → IsErrAnd out (λ y. y ≡ x.0)
        → (q : Question) → said_told bytes out ≡ asked w bytes q
    question-refused f out o q = rw (passed_up out o) (asked-refused (wides w) bytes e (broke_off b f) refl q)

  -- for a call that hands the bank back
  module _ {v : Result (Unit {0}) Refused} (e : v ≡ judged_back w bytes) {flow : ControlFlow _ (Unit {0})}
      (b : v ≡ result_from_control_flow flow) where
    pub passes_back : {x : Unit {0}} → flow ≡ Continue x → Passes w bytes
    passes_back f = passed-with bytes (judged_in (wides w) bytes) (sym e ∙ went_on b f)

    module _ {x : _} (f : flow ≡ Break x) where
      refuses : (judged_in (wides w) bytes ≡ Err x.0.why) × (x.0.bank ≡ bytes)
      refuses = refused-with bytes (judged_in (wides w) bytes) x.0 (sym e ∙ broke_off b f)

      pub change-refused : (out : Result (List ℕ) Refused) → IsErrAnd out (λ y. y ≡ x.0) → (c : Change)
          → said_changed out ≡ changed w bytes c
      change-refused out o c = rw (passed_up out o) (changed-refused (wides w) bytes refl refuses.0 refuses.1 c)

      pub insertion-refused : (out : Result HandedOut Refused) → IsErrAnd out (λ y. y ≡ x.0) → (c : Change)
          → said_inserted out ≡ changed w bytes c
      insertion-refused out o c = rw (passed_up out o) (changed-refused (wides w) bytes refl refuses.0 refuses.1 c)

-- ---- a bank that may be used

module _ (w : ℕ) (bytes : List ℕ) (f : Passes w bytes) where
  -- what the judgement says of the width and of the bytes
  pub width-right : good_width w ≡ true
  width-right = width-good (wides w) bytes refl f

  pub bytes-valid : valid_bytes w bytes ≡ true
  bytes-valid = held-valid (wides w) bytes refl f

module _ (w : ℕ) (bytes : List ℕ) (f : Passes w bytes) (l : length bytes ≡ 25) where
  pub good : Good w bytes
  good = good-valid w bytes l (width-right w bytes f) (bytes-valid w bytes f)

  pub wide-bytes : length (take w (drop 1 bytes)) ≡ w
  wide-bytes = slots_length w bytes (omega (arith, good.most))

  -- the bytes as they are pack their own bank
  pub taken_in : accepted bytes ≡ changed w bytes from_value
  taken_in =
      value-so (wides w) bytes (width-right w bytes f) (bytes-valid w bytes f) (sym (bytes-again w bytes l good)) refl

  -- the slot at a position, and at the back
  pub slot-bytes : {slot : ℕ} (i : ℕ) → i < w → slot ≡ get_or bytes (i + 1) 0 → slot ≡ slot_at i (bank_of w bytes)
  slot-bytes i h d = d ∙ sym (slot-at w i bytes h)

  pub back-bytes : {slot : ℕ} → slot ≡ get_or bytes w 0 → slot ≡ slot_at (width (bank_of w bytes) - 1) (bank_of w bytes)
  back-bytes d =
      let m = good.least in
      rw (wide-bytes, slot-at w (w - 1) bytes (omega arith), d, let z : w - 1 + 1 ≡ w = omega arith in z)

  -- moves of bytes are moves of the bank
  module _ {n : ℕ} {next : List ℕ} (i : ℕ) where
    pub removed-bytes : n ≡ get_or bytes 0 0 → i < n → next ≡ (n - 1) ∷ turned i (i + 1) n (drop 1 bytes)
        → next ≡ bytes_of (turned_bank (n - 1) i (i + 1) n (bank_of w bytes))
    removed-bytes s h d = d ∙ moved-again w bytes l good i (i + 1) n (n - 1) (omega arith) (omega arith) (omega (arith, good.sized))

    pub withdrawn-so : n ≡ get_or bytes 0 0 → i < n → next ≡ (n - 1) ∷ turned i (i + 1) w (drop 1 bytes)
        → accepted next ≡ changed w bytes (remove_to_back i)
    withdrawn-so s h d =
        withdraw-so (wides w) bytes (width-right w bytes f) (bytes-valid w bytes f) wide-bytes s i h
        (d ∙ moved-again w bytes l good i (i + 1) w (n - 1) (omega arith) (omega (arith, good.sized)) (omega arith)) refl

    pub first-free-bytes : i ≤ n → n < w → next ≡ (n + 1) ∷ turned i n (n + 1) (drop 1 bytes)
        → next ≡ bytes_of (turned_bank (n + 1) i n (n + 1) (bank_of w bytes))
    first-free-bytes h m d = d ∙ moved-again w bytes l good i n (n + 1) (n + 1) h (omega arith) (omega arith)

    pub inserted-so : {slot resting : ℕ} → n ≡ get_or bytes 0 0 → i ≤ n → n < w → slot ≡ get_or bytes w 0 → resting ≡ w - (n + 1)
        → next ≡ (n + 1) ∷ turned i (w - 1) w (drop 1 bytes)
        → accepted (next ++ slot ∷ resting ∷ []) ≡ changed w bytes (insert_from_back i)
    inserted-so s h m t r d =
        insert-so (wides w) bytes (width-right w bytes f) (bytes-valid w bytes f) i wide-bytes s h m
        (d ∙ moved-again w bytes l good i (w - 1) w (n + 1) (omega arith) (omega arith) (omega arith) ∙ rw (s, wide-bytes))
        (back-bytes t) r refl

    pub rotated-bytes : (j : ℕ) → i ≤ j → j ≤ w → next ≡ n ∷ turned i j w (drop 1 bytes)
        → next ≡ bytes_of (turned_bank n i j w (bank_of w bytes))
    rotated-bytes j h m d = d ∙ moved-again w bytes l good i j w n h m (omega arith)

  pub swapped-bytes : {next : List ℕ} (i j : ℕ) → i < w → j < w → next ≡ swapped (i + 1) (j + 1) bytes
      → next ≡ bytes_of (exchanged i j (bank_of w bytes))
  swapped-bytes i j h m d = d ∙ swapped-again w bytes l good i j h m

-- ---- a bank that is made

-- the empty bank is the sorted one with none taken
pub none-taken : (w : ℕ) (out : Result (List ℕ) Refused) → said_changed out ≡ made_sorted w 0 → said_changed out ≡ made_empty w
none-taken w out e = e ∙ sym (empty-sorted (wides w) w (replicate 25 0))

pub ruleset calls = (
  rules,
  returns,
  passes,
  passes_back,
  question-refused,
  change-refused,
  insertion-refused,
  width-right,
  bytes-valid,
  wide-bytes,
  taken_in,
  slot-bytes,
  back-bytes,
  removed-bytes,
  withdrawn-so,
  first-free-bytes,
  inserted-so,
  rotated-bytes,
  swapped-bytes,
)

pub ruleset made = (rules, makings, none-taken, out_of_width, in_width)
