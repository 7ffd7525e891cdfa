-- `save` meets its contract. Assumes nothing.
use borrow.Author.Tests.{not-true, not-false}
use Rattle.card_save.proofs.Saves.{save-unfit, save-tree, save-blocks, save-short}
use Rattle.card_save.proofs.save.Goals as goal

pub returns-then-not-is_tree : goal.returns-then-not-is_tree
returns-then-not-is_tree c = search (save-unfit, not-true)

pub write_all-written-requires : goal.write_all-written-requires
write_all-written-requires c = search (save-tree, not-false)

pub returns-in-Blocks : goal.returns-in-Blocks
returns-in-Blocks c = search (save-blocks, not-false)

pub returns-in-Short : goal.returns-in-Short
returns-in-Short c = search (save-short, not-false)
