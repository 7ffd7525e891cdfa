-- `inside::total` meets its contract: the sum, and the bytes of the entries that are left, are all bytes. Assumes nothing.
use Prim.Native.Nat.{◌+◌, ◌*◌, ◌-◌, ◌≤◌}
use mathlib.Core.Path.{◌≡◌}
use lib.ListN.{length}
use Rattle.card_stream.specs.Stream.{unfilled}
use Rattle.card_writer.specs.Listing.{lent, entries_at}
use Rattle.card_writer.proofs.Saves.{bytes_from}
use Rattle.card_writer.proofs.inside.total.Given as goal

abbrev pub invariant-loop-i : goal.invariant-loop-i
invariant-loop-i l =
    (l.i ≤ l.n) × (l.sum ≤ 4 + 266 * l.i) × (l.sum + bytes_from (lent l.order l.cells l.bytes) l.i (l.n - l.i) ≡ length
    (unfilled (entries_at (lent l.order l.cells l.bytes) 0 l.n)))

abbrev pub decreases-loop-i : goal.decreases-loop-i
decreases-loop-i l = l.n - l.i
