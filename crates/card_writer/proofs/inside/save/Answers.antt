-- `inside::save` meets its contract. Assumes nothing.
use borrow.Author.Rules.{rules}
use Rattle.card_writer.proofs.Saves.{blocks-hold, save-short, save-done}
use Rattle.card_writer.proofs.inside.save.Goals as goal

pub returns-then-out-blocks : goal.returns-then-out-blocks
returns-then-out-blocks c = search save-short

pub write-requires : goal.write-requires
write-requires c = (search rules, search blocks-hold, search rules, search rules)

pub returns : goal.returns
returns c = search save-done
