-- `checked` meets its contract: at word i, what the sums come to from there on is the check. Assumes nothing.
use Rattle.std.proofs.Common.{◌≡◌}
use Rattle.card_block.specs.Check.{check_of}
use Rattle.card_block.proofs.Checks.{from_word}
use Rattle.card_block.proofs.inside.checked.Given as goal

abbrev pub invariant-loop-i : goal.invariant-loop-i
invariant-loop-i l = from_word l.block l.i (record { a = l.a; b = l.b }) ≡ check_of l.number l.block
