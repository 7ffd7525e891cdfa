-- An answer is known by what it says: the contract leaves one outcome. Assumes nothing.
use mathlib.Core.Path.{◌≡◌, refl, sym, ap, ap₂, ◌∙◌}
use lib.ListN.{get_or}
use mathlib.Core.List.{List}
use Prim.Native.Nat.{ℕ, zero, suc}
use Rattle.refusal.proofs.Laws.{number-one}
use Rattle.refusal.proofs.One.{number-of, value_of, same-values, no-refusal}
use Rattle.std.specs.Prelude.{Result, Ok, Err}
use Rattle.leaf.specs.declared.Outcome.{Outcome}
use Rattle.leaf.specs.declared.Outcome.TheVariants.{Found, Conflict, Layer, NotFound}
use Rattle.leaf.specs.declared.Refused.{Refused}
use Rattle.leaf.specs.Search.{values_of, said_searched}

-- the case of each outcome
outcome_of : ℕ → ℕ → Outcome
outcome_of zero n = Found n
outcome_of (suc zero) n = Conflict n
outcome_of (suc (suc zero)) n = Layer n
outcome_of (suc (suc (suc k))) n = NotFound n

again : (x : Outcome) → x ≡ outcome_of (get_or (values_of x) 0 0) (get_or (values_of x) 1 0)
unfolding outcome_of
again (Found n) = refl
again (Conflict n) = refl
again (Layer n) = refl
again (NotFound n) = refl

outcome-one : (x y : Outcome) → values_of x ≡ values_of y → x ≡ y
outcome-one x y e =
    again x ∙ ap₂ outcome_of (ap (λ (l : List ℕ). get_or l 0 0) e) (ap (λ (l : List ℕ). get_or l 1 0) e) ∙ sym (again y)

refused-one : (x y : Refused) → x.why ≡ y.why → x.word ≡ y.word → x.ikey ≡ y.ikey → x.shift_count ≡ y.shift_count
    → x.suffix_start ≡ y.suffix_start → x ≡ y
refused-one x y e f g h k = λ i. record { why = e i; word = f i; ikey = g i; shift_count = h i; suffix_start = k i }

pub searched-one : (x y : Result Outcome Refused) → said_searched x ≡ said_searched y → x ≡ y
searched-one (Ok a) (Ok b) e = ap Ok (outcome-one a b (same-values e))
searched-one (Ok a) (Err b) e = no-refusal b.why e
searched-one (Err a) (Ok b) e = no-refusal a.why (sym e)
searched-one (Err a) (Err b) e =
    ap Err (refused-one a b (number-one a.why b.why (number-of e)) (value_of 0 e) (value_of 1 e) (value_of 2 e) (value_of 3 e))
