-- `inside::counted` meets its contract. Assumes nothing.
use Rattle.card_fields.proofs.Ways.{ways}
use Rattle.card_fields.proofs.inside.counted.Goals as goal

pub returns-then-n-gt255 : goal.returns-then-n-gt255
returns-then-n-gt255 c = search ways

pub returns : goal.returns
returns c = search ways
