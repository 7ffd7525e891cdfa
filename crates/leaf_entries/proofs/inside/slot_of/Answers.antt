-- `leaf_entries::inside::slot_of` meets its contract. Assumes nothing.
use Rattle.leaf_entries.proofs.Views.{words}
use Rattle.leaf_entries.proofs.inside.slot_of.Goals as goal

pub returns : goal.returns
returns c = search words
