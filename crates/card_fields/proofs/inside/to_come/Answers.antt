-- `inside::to_come` meets its contract. Assumes nothing.
use Rattle.card_fields.proofs.Ways.{ways}
use Rattle.card_fields.proofs.inside.to_come.Goals as goal

pub returns-then-n-eq0 : goal.returns-then-n-eq0
returns-then-n-eq0 c = search ways

pub returns : goal.returns
returns c = search ways
