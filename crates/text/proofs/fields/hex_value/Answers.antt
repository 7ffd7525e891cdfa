-- `fields::hex_value` meets its contract. Assumes nothing.
use Rattle.text.proofs.Keys.{hex-from, letter-from, digit-said, letter-said}
use Rattle.text.proofs.fields.hex_value.Goals as goal

pub overflow_sub-result : goal.overflow_sub-result
overflow_sub-result c = search hex-from

pub returns-then-b-le57 : goal.returns-then-b-le57
returns-then-b-le57 c = digit-said c.requires c.if-b-le57.true

pub overflow_sub-result-2 : goal.overflow_sub-result-2
overflow_sub-result-2 c = search letter-from

pub returns : goal.returns
returns c = letter-said c.requires c.if-b-le57.false
