-- What equal answers have in common: the number and the values, and with the number the refusal. Assumes nothing.
use Prim.Native.Nat.{ℕ}
use mathlib.Core.Path.{◌≡◌, ap}
use mathlib.Core.List.{List, [], ◌∷◌}
use native.Mathlib.Omega.{arith}
use lib.ListN.{get_or}
use Rattle.refusal.specs.declared.Refusal.{Refusal}
use Rattle.refusal.specs.Refusals.{number_of}
use Rattle.refusal.specs.Answer.{Answer, accepted, refused}
use Rattle.refusal.proofs.Laws.{number-one, number-pos}

-- the number and the values of equal answers
pub number-of : {a b : Answer} → a ≡ b → a.number ≡ b.number
number-of e = ap (λ (x : Answer). x.number) e

pub value_of : (k : ℕ) {a b : Answer} → a ≡ b → get_or a.values k 0 ≡ get_or b.values k 0
value_of k e = ap (λ (x : Answer). get_or x.values k 0) e

-- an accepted answer is no refusal
pub differ : (why : Refusal) → 0 ≡ number_of why → ⊥
differ why e = omega (arith, number-pos why)

pub no-refusal : {A : Type 0} (why : Refusal) {us vs : List ℕ} → accepted us ≡ refused why vs → A
no-refusal why e = absurd (differ why (number-of e))

-- a refusal says why
pub same-refusal : (v w : Refusal) {us vs : List ℕ} → refused v us ≡ refused w vs → v ≡ w
same-refusal v w e = number-one v w (number-of e)

pub same-values : {us vs : List ℕ} → accepted us ≡ accepted vs → us ≡ vs
same-values e = ap (λ (x : Answer). x.values) e

-- the only value of an accepted answer
pub same-value : {m n : ℕ} → accepted (m ∷ []) ≡ accepted (n ∷ []) → m ≡ n
same-value e = value_of 0 e
