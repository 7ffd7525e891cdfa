-- `edit::inside::split_internode` meets its contract. Assumes nothing.
use Rattle.edit.proofs.Internodes.{internodes}
use Rattle.edit.proofs.inside.split_internode.Goals as goal

pub split_insert-halves-requires : goal.split_insert-halves-requires
split_insert-halves-requires c = search internodes

pub returns : goal.returns
returns c = search internodes
