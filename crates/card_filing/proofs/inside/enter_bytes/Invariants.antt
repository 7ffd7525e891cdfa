-- `card_filing::inside::enter_bytes` meets its contract: what the rest of the bytes makes of the present state is what all make of the
-- first.
-- Assumes nothing.
use Prim.Native.Nat.{◌-◌}
use mathlib.Core.Path.{◌≡◌}
use lib.ListN.{length, drop}
use Rattle.arena.specs.Memory.{memory}
use Rattle.card_stream.specs.Cuts.{arrived}
use Rattle.card_fields.specs.Fits.{Fits}
use Rattle.card_filing.specs.Filing.{step_putting, both}
use Rattle.card_filing.proofs.inside.enter_bytes.Given as goal

abbrev pub invariant-loop-i : goal.invariant-loop-i
invariant-loop-i l =
    (length l.nodes ≡ length l.initial.nodes) × (length l.cells ≡ length l.initial.cells) × (length l.bytes ≡ length l.initial.bytes)
    × (length l.field ≡ 256) × (length l.key ≡ 256) × Fits l.t.fields
    × (arrived step_putting (both l.field l.key l.t (memory l.nodes l.cells l.bytes)) (drop l.i l.part) ≡ arrived step_putting
    (both l.initial.field l.initial.key l.initial.t (memory l.initial.nodes l.initial.cells l.initial.bytes)) l.part)

abbrev pub decreases-loop-i : goal.decreases-loop-i
decreases-loop-i l = length l.part - l.i
