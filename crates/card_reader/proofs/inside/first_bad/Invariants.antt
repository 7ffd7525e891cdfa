-- `inside::first_bad` meets its contract. Assumes nothing.
use Prim.Native.Nat.{◌≤◌, ◌-◌}
use mathlib.Core.Path.{◌≡◌}
use Rattle.card_stream.specs.Payload.{first_bad}
use Rattle.card_reader.proofs.inside.first_bad.Given as goal

abbrev pub invariant-loop-i : goal.invariant-loop-i
invariant-loop-i l = (l.i ≤ l.n) × (first_bad l.i (l.n - l.i) l.image ≡ first_bad 0 l.n l.image)

abbrev pub decreases-loop-i : goal.decreases-loop-i
decreases-loop-i l = l.n - l.i
