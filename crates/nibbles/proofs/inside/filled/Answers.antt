-- `inside::filled` meets its contract. Assumes nothing.
use borrow.Author.Rules.{rules}
use Rattle.nibbles.proofs.Words.{filling}
use Rattle.nibbles.proofs.inside.filled.Goals as goal

pub returns : goal.returns
returns c = search (rules, filling)
