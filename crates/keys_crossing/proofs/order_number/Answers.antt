-- `keys_crossing::order_number` meets its contract: a law for each case of the answer. Assumes nothing.
use Rattle.keys_crossing.proofs.Crosses.{less-0, equal-1, greater-2}
use Rattle.keys_crossing.proofs.order_number.Goals as goal

pub returns-in-Less : goal.returns-in-Less
returns-in-Less c = search less-0

pub returns-in-Equal : goal.returns-in-Equal
returns-in-Equal c = search equal-1

pub returns-in-Greater : goal.returns-in-Greater
returns-in-Greater c = search greater-2
