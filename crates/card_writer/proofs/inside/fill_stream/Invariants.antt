-- `inside::fill_stream` meets its contract: after j bytes, the cursor gives what is left of the stream. Assumes nothing.
use Prim.Native.Nat.{◌≤◌, ◌-◌}
use mathlib.Core.Path.{◌≡◌}
use lib.ListN.{length, drop}
use Rattle.lent_words.specs.Parts.{put_part}
use Rattle.card_writer.specs.Listing.{lens_of, lent}
use Rattle.card_writer.specs.Cursor.{rest_of, further, Placed, front}
use Rattle.card_writer.proofs.inside.fill_stream.Given as goal

abbrev pub invariant-loop-j : goal.invariant-loop-j
invariant-loop-j l =
    (l.j ≤ 504) × (length l.block ≡ 512) × Placed (lens_of l.order l.cells) l.n l.s
    × (rest_of (lent l.order l.cells l.bytes) l.n l.s ≡ drop l.j (rest_of (lent l.order l.cells l.bytes) l.n l.initial.s))
    × (further (lens_of l.order l.cells) l.n (504 - l.j) l.s ≡ further (lens_of l.order l.cells) l.n 504 l.initial.s)
    × (l.block ≡ put_part l.initial.block 0 (front l.j (rest_of (lent l.order l.cells l.bytes) l.n l.initial.s)))

abbrev pub decreases-loop-j : goal.decreases-loop-j
decreases-loop-j l = 504 - l.j
