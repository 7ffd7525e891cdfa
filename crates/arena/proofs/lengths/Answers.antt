-- `lengths` meets its contract. Assumes nothing.
use Rattle.arena.proofs.lengths.Goals as goal

pub returns : goal.returns
returns c = c.measure.ensures
