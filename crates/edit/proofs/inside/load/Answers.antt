-- `edit::inside::load` meets its contract. Assumes nothing.
use Rattle.edit.proofs.Internodes.{internodes}
use Rattle.edit.proofs.inside.load.Goals as goal

pub returns : goal.returns
returns c = search internodes
