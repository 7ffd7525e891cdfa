-- The digits passed spell the value.
use Rattle.std.proofs.Common.{◌≡◌}
use Rattle.hex_digits.specs.Digits.{hex_at}
use Rattle.hex_digits.proofs.number.Given as goal

abbrev pub invariant-loop-k : goal.invariant-loop-k
invariant-loop-k l = l.value ≡ hex_at l.text l.from l.k
