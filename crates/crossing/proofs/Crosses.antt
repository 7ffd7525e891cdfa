-- What each case of an answer leaves for C: an accepted one its values, a refused one its number alone. Assumes nothing.
use Prim.Native.Nat.{ℕ, ◌<◌}
use native.Mathlib.Omega.{arith}
use mathlib.Core.Path.{◌≡◌, refl, sym, subst, ◌∙◌}
use mathlib.Core.Bool.{Bool, true, false, cond}
use mathlib.Core.List.{List, [], ◌∷◌}
use lib.Dec.{eqb}
use borrow.Author.Tests.{ne_eqb}
use Rattle.std.specs.Prelude.{Result, Ok, Err}
use Rattle.refusal.specs.declared.Refusal.{Refusal}
use Rattle.refusal.specs.Refusals.{number_of}
use Rattle.refusal.specs.Answer.{Answer, accepted, refused}
use Rattle.refusal.proofs.Laws.{number-pos}
use Rattle.slot_answers.specs.declared.Refused.{Refused}
use Rattle.slot_answers.specs.declared.HandedOut.{HandedOut}
use Rattle.permuter.specs.Answers.{said_changed, said_inserted, said_told, said_made}
use Rattle.crossing.specs.Crossing.{written_if, Crossed}
use Rattle.crossing.specs.Told.{CrossedBoth}

-- a refusal returns its number, and what was lent stays
pub refusal-crosses : (why : Refusal) (back lent : List ℕ) {r : ℕ} → r ≡ number_of why →
    Crossed (refused why back) r lent lent
refusal-crosses why back lent e =
    record { number = e; lent = rw (ne_eqb (number_of why) 0 (λ z. let p = number-pos why in omega arith)) refl }

-- an answer that is known crosses as that one does
pub crosses-as : {a b : Answer} {r : ℕ} {before after : List ℕ} → a ≡ b → Crossed a r before after →
    Crossed b r before after
crosses-as {r = r} {before = before} {after = after} e h = subst (λ (x : Answer). Crossed x r before after) e h

-- an answer leaves one outcome: what is returned, and what stands in the lent numbers
pub one-outcome : {a : Answer} {r r' : ℕ} {before after after' : List ℕ} → Crossed a r before after →
    Crossed a r' before after' → (r ≡ r') × (after ≡ after')
one-outcome h h' = (h.number ∙ sym h'.number, h.lent ∙ sym h'.lent)

-- a refusal that tells nothing leaves what was lent
nothing-told : (why : Refusal) (before : List ℕ) → before ≡ cond (eqb (number_of why) 0) before before
nothing-told why before = by (eqb (number_of why) 0)
  where
    by : (b : Bool) → before ≡ cond b before before
    by true = refl
    by false = refl

-- so it does where numbers are lent for what an accepted call tells, and others for what a refusal tells
pub refusal-leaves-both : (why : Refusal) (before told : List ℕ) {r : ℕ} → r ≡ number_of why
    → CrossedBoth (refused why []) r before before told told
refusal-leaves-both why before told n =
    record { number = n; values = (refusal-crosses why [] before n).lent; told = nothing-told why told }

-- an answer that is known, and tells on both sides, crosses as that one does
pub both-crosses-as : {a b : Answer} {r : ℕ} {before after before-told after-told : List ℕ} → a ≡ b →
    CrossedBoth a r before after before-told after-told → CrossedBoth b r before after before-told after-told
both-crosses-as {r = r} {before = before} {after = after} {before-told = old} {after-told = new} e h =
    subst (λ (x : Answer). CrossedBoth x r before after old new) e h

-- it leaves one outcome: what is returned, and what stands in both kinds of lent numbers
pub one-outcome-of-both : {a : Answer} {r r' : ℕ} {before after after' before-told after-told after-told' : List ℕ} →
    CrossedBoth a r before after before-told after-told → CrossedBoth a r' before after' before-told after-told' →
    (r ≡ r') × (after ≡ after') × (after-told ≡ after-told')
one-outcome-of-both h h' = (h.number ∙ sym h'.number, h.values ∙ sym h'.values, h.told ∙ sym h'.told)

module _ {answer : Result ℕ Refused} where
  pub changed-word : {new old : ℕ} → answer ≡ Ok new → Crossed (said_changed answer) 0 (old ∷ []) (new ∷ [])
  changed-word e = rw e (record { number = refl; lent = refl })

  pub changed-refused : {back : Refused} {old r : ℕ} → answer ≡ Err back → r ≡ number_of back.why →
      Crossed (said_changed answer) r (old ∷ []) (old ∷ [])
  changed-refused {back} {old} e n = rw e (refusal-crosses back.why (back.word ∷ []) (old ∷ []) n)

  pub told-number : {new old : ℕ} → answer ≡ Ok new → Crossed (said_told answer) 0 (old ∷ []) (new ∷ [])
  told-number e = rw e (record { number = refl; lent = refl })

  pub told-refused : {back : Refused} {old r : ℕ} → answer ≡ Err back → r ≡ number_of back.why →
      Crossed (said_told answer) r (old ∷ []) (old ∷ [])
  told-refused {back} {old} e n = rw e (refusal-crosses back.why (back.word ∷ []) (old ∷ []) n)

module _ {answer : Result HandedOut Refused} where
  pub inserted-slot : {out : HandedOut} {old before rested : ℕ} → answer ≡ Ok out →
      Crossed (said_inserted answer) 0 (old ∷ before ∷ rested ∷ []) (out.word ∷ out.slot ∷ out.resting ∷ [])
  inserted-slot e = rw e (record { number = refl; lent = refl })

  pub inserted-refused : {back : Refused} {old before rested r : ℕ} → answer ≡ Err back → r ≡ number_of back.why →
      Crossed (said_inserted answer) r (old ∷ before ∷ rested ∷ []) (old ∷ before ∷ rested ∷ [])
  inserted-refused {back} {old} {before} {rested} e n =
      rw e (refusal-crosses back.why (back.word ∷ []) (old ∷ before ∷ rested ∷ []) n)

module _ {answer : Result ℕ Refusal} where
  pub made_word : {new old : ℕ} → answer ≡ Ok new → Crossed (said_made answer) 0 (old ∷ []) (new ∷ [])
  made_word e = rw e (record { number = refl; lent = refl })

  pub made-refused : {why : Refusal} {old r : ℕ} → answer ≡ Err why → r ≡ number_of why →
      Crossed (said_made answer) r (old ∷ []) (old ∷ [])
  made-refused {why} {old} e n = rw e (refusal-crosses why [] (old ∷ []) n)
