-- `number` meets its contract: the value leaves room for one more digit.
use Rattle.std.proofs.Common.{rules}
use Rattle.hex_digits.specs.Digits.{hex_at}
use Rattle.hex_digits.proofs.Digits.{times-room, one-more-room, one_more, all_read, all-below}
use Rattle.hex_digits.proofs.number.Goals as goal

pub loop-k-init : goal.loop-k-init
unfolding hex_at
loop-k-init c = search rules

pub overflow_mul-value : goal.overflow_mul-value
overflow_mul-value c = search times-room

pub overflow_add-value : goal.overflow_add-value
overflow_add-value c = search one-more-room

pub loop-k-preserved : goal.loop-k-preserved
loop-k-preserved c = search one_more

pub returns : goal.returns
returns c = (search all_read, search all-below)
