-- What a `?` says: what the call before it returned, and at the exit what the function returns. Assumes nothing.
use mathlib.Core.Path.{◌≡◌, ap, ◌∙◌}
use Rattle.std.specs.Prelude.{Result, Ok, Err, IsErrAnd}
use Rattle.std.specs.declared.ops.ControlFlow.{ControlFlow}
use Rattle.std.specs.declared.ops.ControlFlow.TheVariants.{Continue, Break}
use Rattle.std.specs.Result.{result_from_control_flow}

module _ {T E : Type 0} {r : Result T E} {flow : ControlFlow _ T} (e : r ≡ result_from_control_flow flow) where
  pub went_on : {x : T} → flow ≡ Continue x → r ≡ Ok x
  went_on d = e ∙ ap result_from_control_flow d

  pub broke_off : {x : _} → flow ≡ Break x → r ≡ Err x.0
  broke_off d = e ∙ ap result_from_control_flow d

-- the error goes up as it is
pub passed_up : {T E : Type 0} (r : Result T E) {x : E} → IsErrAnd r (λ y. y ≡ x) → r ≡ Err x
passed_up (Ok y) h = absurd h
passed_up (Err y) h = ap Err h
