-- `inside::is_above` meets its contract. Assumes nothing.
use Rattle.card_fields.proofs.Ways.{ways}
use Rattle.card_fields.proofs.inside.is_above.Goals as goal

pub returns-then-last-eq0 : goal.returns-then-last-eq0
returns-then-last-eq0 c = search ways

pub returns-in-Less : goal.returns-in-Less
returns-in-Less c = search ways

pub returns-in-Equal : goal.returns-in-Equal
returns-in-Equal c = search ways

pub returns-in-Greater : goal.returns-in-Greater
returns-in-Greater c = search ways
