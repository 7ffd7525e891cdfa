-- `inside::byte_of` meets its contract. Assumes nothing.
use Prim.Native.Nat.{◌≤◌, ◌-◌}
use mathlib.Core.Path.{◌≡◌}
use lib.ListN.{get_or}
use Rattle.card_block.specs.Words.{low_first}
use Rattle.card_writer.proofs.Digits.{digit_from}
use Rattle.card_writer.proofs.inside.byte_of.Given as goal

abbrev pub invariant-loop-j : goal.invariant-loop-j
invariant-loop-j l = (l.j ≤ l.i) × (digit_from l.y l.i l.j ≡ get_or (low_first 8 l.x) l.i 0)

abbrev pub decreases-loop-j : goal.decreases-loop-j
decreases-loop-j l = l.i - l.j
