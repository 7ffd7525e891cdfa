-- `inside::take_blocks` meets its contract. Assumes nothing.
use Prim.Native.Nat.{◌≤◌, ◌-◌}
use mathlib.Core.Path.{◌≡◌}
use lib.ListN.{length}
use Rattle.card_stream.specs.Cuts.{arrived}
use Rattle.card_fields.specs.Step.{step}
use Rattle.card_fields.specs.Fits.{Fits}
use Rattle.card_stream.specs.Payload.{payload}
use Rattle.card_reader.proofs.inside.take_blocks.Given as goal

abbrev pub invariant-loop-i : goal.invariant-loop-i
invariant-loop-i l =
    (l.i ≤ l.n) × (length l.field ≡ 256) × (length l.key ≡ 256) × Fits l.t × ((l.field, l.key, l.t) ≡ arrived step (l.initial.field, l.initial.key, l.initial.t) (payload l.i l.image))

abbrev pub decreases-loop-i : goal.decreases-loop-i
decreases-loop-i l = l.n - l.i
