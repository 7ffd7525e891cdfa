-- `card_crossing::give_saved` meets its contract: a law for each case of the answer. Assumes nothing.
use Rattle.card_crossing.proofs.Crosses.{saved-blocks, saved-short, saved-refused}
use Rattle.card_crossing.proofs.give_saved.Goals as goal

pub returns-in-Blocks : goal.returns-in-Blocks
returns-in-Blocks c = search saved-blocks

pub returns-in-Short : goal.returns-in-Short
returns-in-Short c = search saved-short

pub returns-in-Refused : goal.returns-in-Refused
returns-in-Refused c = search saved-refused
