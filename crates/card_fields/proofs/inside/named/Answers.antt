-- `inside::named` meets its contract. Assumes nothing.
use Rattle.card_fields.proofs.Ways.{keys}
use Rattle.card_fields.proofs.inside.named.Goals as goal

pub returns-then-is_above : goal.returns-then-is_above
returns-then-is_above c = search keys

pub returns : goal.returns
returns c = search keys
