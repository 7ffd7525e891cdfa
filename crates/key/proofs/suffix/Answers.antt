-- `key::suffix` meets its contract: the refusal's number and the part are one answer. Assumes nothing.
use Rattle.key.proofs.Telling.{suffix-told}
use Rattle.key.proofs.suffix.Goals as goal

pub returns : goal.returns
returns c = suffix-told _ _ _ _ _ _ c.refusal_of.ensures c.suffix.ensures
