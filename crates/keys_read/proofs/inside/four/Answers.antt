-- `keys_read::inside::four` meets its contract. Assumes nothing.
use borrow.Author.Rules.{rules}
use Rattle.keys_read.proofs.Ikeys.{four_is}
use Rattle.keys_read.proofs.inside.four.Goals as goal

pub returns : goal.returns
returns c = (search four_is, search rules)
