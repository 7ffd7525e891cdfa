-- `inside::pass_over` meets its contract: what the rest of the bytes makes of the present state is what all make of the first. Assumes
-- nothing.
use Prim.Native.Nat.{◌-◌}
use mathlib.Core.Path.{◌≡◌}
use lib.ListN.{length, drop}
use Rattle.card_stream.specs.Cuts.{arrived}
use Rattle.card_fields.specs.Step.{step}
use Rattle.card_fields.specs.Fits.{Fits}
use Rattle.card_fields.proofs.inside.pass_over.Given as goal

abbrev pub invariant-loop-i : goal.invariant-loop-i
invariant-loop-i l =
    (length l.field ≡ 256) × (length l.key ≡ 256) × Fits l.t
    × (arrived step (l.field, l.key, l.t) (drop l.i l.bytes) ≡ arrived step (l.initial.field, l.initial.key, l.initial.t) l.bytes)

abbrev pub decreases-loop-i : goal.decreases-loop-i
decreases-loop-i l = length l.bytes - l.i
