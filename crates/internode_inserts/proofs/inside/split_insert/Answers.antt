-- `inside::split_insert` meets its contract. Assumes nothing.
use Rattle.internode_inserts.proofs.Splits.{split-low, split-here, split-high}
use borrow.Author.Rules.{rules}
use Rattle.internode_inserts.proofs.inside.split_insert.Goals as goal

pub returns-then-p-lt8 : goal.returns-then-p-lt8
returns-then-p-lt8 c = search (rules, split-low)

pub returns-then-p-lt9 : goal.returns-then-p-lt9
returns-then-p-lt9 c = search (rules, split-here)

pub returns : goal.returns
returns c = search (rules, split-high)
