-- `store::inside::put_counted` meets its contract. Assumes nothing.
use borrow.Author.Rules.{rules}
use Rattle.store.proofs.Writing.{put_count, count-in}
use Rattle.store.proofs.inside.put_counted.Goals as goal

pub bounds-nodes-1 : goal.bounds-nodes-1
bounds-nodes-1 c = search count-in

pub returns : goal.returns
returns c = (search put_count, search rules)
