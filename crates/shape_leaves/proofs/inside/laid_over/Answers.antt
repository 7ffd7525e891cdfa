-- `shape_leaves::inside::laid_over` meets its contract. Assumes nothing.
use Rattle.shape_leaves.proofs.Zeros.{entry-over}
use Rattle.shape_leaves.proofs.inside.laid_over.Goals as goal

pub returns : goal.returns
returns c = search entry-over
