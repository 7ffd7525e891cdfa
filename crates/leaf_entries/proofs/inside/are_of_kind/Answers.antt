-- `leaf_entries::inside::are_of_kind` meets its contract. Assumes nothing.
use borrow.Author.Count.{below_none}
use Rattle.leaf_entries.proofs.Judged.{kinds-not, kinds-next, kinds-all}
use Rattle.leaf_entries.proofs.inside.are_of_kind.Goals as goal

pub loop-i-init : goal.loop-i-init
loop-i-init c = below_none _

pub returns-then-not-is_of_kind : goal.returns-then-not-is_of_kind
returns-then-not-is_of_kind c = search kinds-not

pub loop-i-preserved : goal.loop-i-preserved
loop-i-preserved c = search kinds-next

pub returns : goal.returns
returns c = search kinds-all
