-- `edit::inside::grow_internode` meets its contract. Assumes nothing.
use Rattle.edit.proofs.Internodes.{internodes}
use Rattle.edit.proofs.inside.grow_internode.Goals as goal

pub returns-then-x-gt15 : goal.returns-then-x-gt15
returns-then-x-gt15 c = search internodes

pub returns-then-x-lt15 : goal.returns-then-x-lt15
returns-then-x-lt15 c = search internodes

pub split_internode-requires : goal.split_internode-requires
split_internode-requires c = search internodes

pub returns : goal.returns
returns c = search internodes
