-- `leaf_entries::inside::is_valid` meets its contract. Assumes nothing.
use Rattle.leaf_entries.proofs.Views.{words}
use Rattle.leaf_entries.proofs.inside.is_valid.Goals as goal

pub returns : goal.returns
returns c = search words
