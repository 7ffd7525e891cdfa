-- `inside::write` meets its contract: after i blocks, the cursor stands where block i begins in the stream. Assumes nothing.
use Prim.Native.Nat.{◌≤◌, ◌-◌, ◌*◌}
use mathlib.Core.Path.{◌≡◌}
use mathlib.Core.List.{◌++◌}
use lib.ListN.{length, drop}
use Rattle.card_stream.specs.Image.{blocks_of}
use Rattle.card_stream.specs.Stream.{unfilled, stream_of}
use Rattle.card_writer.specs.Listing.{lens_of, lent, entries_at}
use Rattle.card_writer.specs.Cursor.{rest_of, Placed}
use Rattle.card_writer.proofs.inside.write.Given as goal

abbrev pub invariant-loop-i : goal.invariant-loop-i
invariant-loop-i l =
    (l.i ≤ l.blocks) × (length l.out ≡ length l.initial.out) × Placed (lens_of l.order l.cells) l.n l.c
    × (rest_of (lent l.order l.cells l.bytes) l.n l.c ≡ drop (504 * l.i) (unfilled (entries_at (lent l.order l.cells l.bytes) 0 l.n)))
    × (l.out ≡ blocks_of l.i (stream_of (entries_at (lent l.order l.cells l.bytes) 0 l.n)) ++ drop (512 * l.i) l.initial.out)

abbrev pub decreases-loop-i : goal.decreases-loop-i
decreases-loop-i l = l.blocks - l.i
