-- `shape_leaves::inside::entry_at` meets its contract. Assumes nothing.
use Rattle.shape_leaves.proofs.Leaves.{entry_read}
use Rattle.shape_leaves.proofs.inside.entry_at.Goals as goal

pub returns : goal.returns
returns c = search entry_read
