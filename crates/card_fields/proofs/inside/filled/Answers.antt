-- `inside::filled` meets its contract. Assumes nothing.
use Rattle.card_fields.proofs.Ways.{ways}
use Rattle.card_fields.proofs.inside.filled.Goals as goal

pub returns-then-zeros-eq0 : goal.returns-then-zeros-eq0
returns-then-zeros-eq0 c = search ways

pub returns-then-byte-eq0 : goal.returns-then-byte-eq0
returns-then-byte-eq0 c = search ways

pub returns : goal.returns
returns c = search ways
