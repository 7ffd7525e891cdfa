-- `key::full_data` meets its contract: the refusal's number and the part are one answer. Assumes nothing.
use Rattle.key.proofs.Telling.{data-told}
use Rattle.key.proofs.full_data.Goals as goal

pub returns : goal.returns
returns c = data-told _ _ _ _ _ _ c.refusal_of.ensures c.full_data.ensures
