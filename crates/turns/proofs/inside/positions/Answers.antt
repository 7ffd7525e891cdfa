-- `inside::positions` meets its contract. Assumes nothing.
use mathlib.Core.Path.{ap, ◌∙◌}
use Prim.Native.Nat.{ℕ, ◌*◌, ◌%◌, ◌^◌}
use Rattle.turns.proofs.inside.positions.Goals as goal

pub returns : goal.returns
returns c =
    c.low.ensures ∙ ap (λ (x : ℕ). x % 2 ^ (4 * c.args.width)) c.high.ensures
