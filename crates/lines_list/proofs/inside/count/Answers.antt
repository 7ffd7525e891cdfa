-- `inside::count` meets its contract. Assumes nothing.
use borrow.Author.Rules.{rules}
use Rattle.lines_list.proofs.Listings.{header-in, count-is}
use Rattle.lines_list.proofs.inside.count.Goals as goal

pub bounds-nodes-1 : goal.bounds-nodes-1
bounds-nodes-1 c = search (rules, header-in)

pub returns : goal.returns
returns c = search count-is
