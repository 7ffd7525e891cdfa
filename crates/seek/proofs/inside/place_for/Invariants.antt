-- `seek::inside::place_for` meets its contract. Assumes nothing.
use Prim.Native.Nat.{◌+◌, ◌*◌, ◌-◌, ◌≤◌}
use mathlib.Core.Path.{◌≡◌}
use lib.ListN.{length}
use Rattle.arena.specs.Parts.{part}
use Rattle.seek.specs.Places.{place_among}
use Rattle.seek.proofs.inside.place_for.Given as goal

abbrev pub invariant-loop-i : goal.invariant-loop-i
invariant-loop-i l =
    (l.i ≤ l.count) × (l.i ≤ length l.nodes) × (l.place ≤ l.i) × (l.place ≡ place_among l.ikey (part l.nodes (2 + l.n * 47 + 2) l.i))

abbrev pub decreases-loop-i : goal.decreases-loop-i
decreases-loop-i l = l.count - l.i
