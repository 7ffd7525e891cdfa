-- `leaf_entries::inside::is_less` meets its contract. Assumes nothing.
use Rattle.leaf_entries.proofs.Judged.{judged}
use Rattle.leaf_entries.proofs.inside.is_less.Goals as goal

pub returns : goal.returns
returns c = search judged
