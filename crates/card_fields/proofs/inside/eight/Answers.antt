-- `inside::eight` meets its contract. Assumes nothing.
use Rattle.card_fields.proofs.Ways.{eight_is}
use Rattle.card_fields.proofs.inside.eight.Goals as goal

pub returns : goal.returns
returns c = search eight_is
