-- `inside::write_all` meets its contract. Assumes nothing.
use Rattle.card_save.proofs.Saves.{save-root, save-walk, save-whole, save-same}
use borrow.Author.Rules.{rules}
use Rattle.card_save.proofs.inside.write_all.Goals as goal

pub bounds-nodes-0 : goal.bounds-nodes-0
bounds-nodes-0 c = search (rules, save-root)

pub list_layer-n-requires : goal.list_layer-n-requires
list_layer-n-requires c = search save-walk

pub save-requires : goal.save-requires
save-requires c = search save-whole

pub returns : goal.returns
returns c = search save-same
