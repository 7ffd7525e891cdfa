-- What each case of an answer of a wide bank leaves for C: an accepted one its values, a refused one its number alone. Assumes nothing.
use Prim.Native.Nat.{ℕ}
use native.Mathlib.Omega.{arith}
use mathlib.Core.Path.{◌≡◌, refl}
use mathlib.Core.List.{List, [], ◌∷◌, ◌++◌}
use borrow.Author.Tests.{ne_eqb}
use Rattle.std.specs.Prelude.{Result, Ok, Err}
use Rattle.refusal.specs.declared.Refusal.{Refusal}
use Rattle.refusal.specs.Refusals.{number_of}
use Rattle.refusal.specs.Answer.{Answer}
use Rattle.refusal.proofs.Laws.{number-pos}
use Rattle.wide_answers.specs.declared.Refused.{Refused}
use Rattle.wide_answers.specs.declared.HandedOut.{HandedOut}
use Rattle.wide_answers.specs.Answers.{said_changed, said_inserted, said_told}
use Rattle.crossing.specs.Crossing.{Crossed}
use Rattle.crossing.proofs.Crosses.{refusal-crosses, crosses-as}

module _ (answer : Result (List ℕ) Refused) (old : List ℕ) where
  pub changed-bank : {new : List ℕ} → answer ≡ Ok new → Crossed (said_changed answer) 0 old new
  changed-bank e = rw e (record { number = refl; lent = refl })

  pub changed-refused : {q : Refused} {r : ℕ} → answer ≡ Err q → r ≡ number_of q.why → Crossed (said_changed answer) r old old
  changed-refused {q} e n = rw e (refusal-crosses q.why q.bank old n)

module _ (answer : Result HandedOut Refused) (old : List ℕ) (before rested : ℕ) where
  pub inserted-slot : {out : HandedOut} → answer ≡ Ok out →
      Crossed (said_inserted answer) 0 (old ++ before ∷ rested ∷ []) (out.bank ++ out.slot ∷ out.resting ∷ [])
  inserted-slot e = rw e (record { number = refl; lent = refl })

  pub inserted-refused : {q : Refused} {r : ℕ} → answer ≡ Err q → r ≡ number_of q.why →
      Crossed (said_inserted answer) r (old ++ before ∷ rested ∷ []) (old ++ before ∷ rested ∷ [])
  inserted-refused {q} e n = rw e (refusal-crosses q.why q.bank (old ++ before ∷ rested ∷ []) n)

module _ {answer : Result ℕ Refusal} {old : ℕ} where
  pub told-number : {new : ℕ} → answer ≡ Ok new → Crossed (said_told [] answer) 0 (old ∷ []) (new ∷ [])
  told-number e = rw e (record { number = refl; lent = refl })

  pub told-refused : {why : Refusal} {r : ℕ} → answer ≡ Err why → r ≡ number_of why →
      Crossed (said_told [] answer) r (old ∷ []) (old ∷ [])
  told-refused {why} e n = rw e (refusal-crosses why [] (old ∷ []) n)

-- a question crosses in the same way whichever bank was asked: refused, nothing of it is written
pub told_of : (bank : List ℕ) (answer : Result ℕ Refusal) {r : ℕ} {before after : List ℕ} → Crossed (said_told [] answer) r before after →
    Crossed (said_told bank answer) r before after
told_of bank (Ok n) h = record { number = h.number; lent = h.lent }
told_of bank (Err why) h =
    let e = ne_eqb (number_of why) 0 (λ z. let p = number-pos why in omega arith) in
    record { number = h.number; lent = rw e (rw e at h.lent) }

pub asks-as : (bank : List ℕ) (answer : Result ℕ Refusal) {a : Answer} {r : ℕ} {before after : List ℕ} → said_told bank answer ≡ a →
    Crossed (said_told [] answer) r before after → Crossed a r before after
asks-as bank answer e h = crosses-as e (told_of bank answer h)
