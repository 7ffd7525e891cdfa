-- `inside::two` meets its contract. Assumes nothing.
use Rattle.card_fields.proofs.Ways.{two_is}
use Rattle.card_fields.proofs.inside.two.Goals as goal

pub returns : goal.returns
returns c = search two_is
