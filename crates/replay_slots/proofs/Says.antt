-- Each case of an answer as four numbers, and the answer of each code. Assumes nothing.
use Prim.Native.Nat.{ℕ, zero, suc, ◌≤◌}
use native.Mathlib.Omega.{arith}
use mathlib.Core.Path.{◌≡◌, refl, sym, ap, ◌∙◌}
use mathlib.Core.List.{List, [], ◌∷◌}
use lib.ListN.{get_or, get_or-eq_default}
use Rattle.std.specs.Prelude.{Result, Ok, Err}
use Rattle.refusal.specs.declared.Refusal.{Refusal}
use Rattle.refusal.specs.Refusals.{number_of}
use Rattle.refusal.specs.Answer.{Answer}
use Rattle.slot_answers.specs.declared.Refused.{Refused}
use Rattle.slot_answers.specs.declared.HandedOut.{HandedOut}
use Rattle.permuter.specs.Answers.{said_changed, said_inserted, said_told, said_made}
use Rattle.replay_slots.specs.declared.asked.Said.{Said}
use Rattle.replay_slots.specs.Recorded.{said_of, answers, no_call, called}

abbrev four : ℕ → ℕ → ℕ → ℕ → Said
four number first second third = record { number = number; first = first; second = second; third = third }

module _ {answer : Result ℕ Refused} {r : Said} where
  pub changed-word : {word : ℕ} → answer ≡ Ok word → r ≡ four 0 word 0 0 → r ≡ said_of (said_changed answer)
  unfolding said_of
  changed-word e d = rw (e, d) refl

  pub changed-refused : {back : Refused} {n : ℕ} → answer ≡ Err back → n ≡ number_of back.why → r ≡ four n back.word 0 0
      → r ≡ said_of (said_changed answer)
  unfolding said_of
  changed-refused e n d = rw (e, d, n) refl

  pub told-number : {number : ℕ} → answer ≡ Ok number → r ≡ four 0 number 0 0 → r ≡ said_of (said_told answer)
  unfolding said_of
  told-number e d = rw (e, d) refl

  pub told-refused : {back : Refused} {n : ℕ} → answer ≡ Err back → n ≡ number_of back.why → r ≡ four n back.word 0 0
      → r ≡ said_of (said_told answer)
  unfolding said_of
  told-refused e n d = rw (e, d, n) refl

module _ {answer : Result HandedOut Refused} where
  pub inserted-slot : {out : HandedOut} → answer ≡ Ok out → four 0 out.word out.slot out.resting ≡ said_of (said_inserted answer)
  unfolding said_of
  inserted-slot e = rw e refl

  pub inserted-refused : {r : Said} {back : Refused} {n : ℕ} → answer ≡ Err back → n ≡ number_of back.why → r ≡ four n back.word 0 0
      → r ≡ said_of (said_inserted answer)
  unfolding said_of
  inserted-refused e n d = rw (e, d, n) refl

module _ {answer : Result ℕ Refusal} {r : Said} where
  pub made_word : {word : ℕ} → answer ≡ Ok word → r ≡ four 0 word 0 0 → r ≡ said_of (said_made answer)
  unfolding said_of
  made_word e d = rw (e, d) refl

  pub made-refused : {why : Refusal} {n : ℕ} → answer ≡ Err why → n ≡ number_of why → r ≡ four n 0 0 0 → r ≡ said_of (said_made answer)
  unfolding said_of
  made-refused e n d = rw (e, d, n) refl

-- a code that is known asks for the answer at its place
pub asks : (call w word a b : ℕ) {code : ℕ} {r : Said} {said : Answer} → call ≡ code → r ≡ said_of said →
    said ≡ called code w word a b → r ≡ said_of (called call w word a b)
asks call w word a b e r said = rw (e, ← said) r

-- none of the numbers below n
abbrev Others : ℕ → ℕ → Type 0
Others zero call = Unit {0}
Others (suc n) call = Others n call × (call ≡ n → ⊥)

pub others-beyond : (n call : ℕ) → Others n call → n ≤ call
others-beyond zero call h = omega arith
others-beyond (suc n) call h =
    let below = others-beyond n call h.0 in
    let other = h.1 in
    omega arith

-- a code past the last call asks nothing
pub asks_nothing : (call w word a b : ℕ) {r : Said} → 16 ≤ call → r ≡ four 16 0 0 0 → r ≡ said_of (called call w word a b)
unfolding called said_of
asks_nothing call w word a b h d = rw (d, get_or-eq_default (answers w word a b) no_call {n = call} h) refl
