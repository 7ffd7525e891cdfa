-- `edit::inside::store` meets its contract. Assumes nothing.
use Rattle.edit.proofs.Internodes.{internodes}
use Rattle.edit.proofs.inside.store.Goals as goal

pub returns : goal.returns
returns c = search internodes
