-- `inside::take_byte` meets its contract. Assumes nothing.
use Rattle.card_fields.proofs.Ways.{steps}
use Rattle.card_fields.proofs.inside.take_byte.Goals as goal

pub returns-then-s-eq0 : goal.returns-then-s-eq0
returns-then-s-eq0 c = search steps

pub returns-then-at-s : goal.returns-then-at-s
returns-then-at-s c = search steps

pub returns : goal.returns
returns c = search steps
