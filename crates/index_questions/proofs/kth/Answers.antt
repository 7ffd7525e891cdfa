-- `index_questions::kth` meets its contract. Assumes nothing.
use Rattle.index_questions.proofs.Answering.{answering}
use Rattle.index_questions.proofs.kth.Goals as goal

pub returns-then-not-is_tree : goal.returns-then-not-is_tree
returns-then-not-is_tree c = search answering

pub bounds-nodes-0 : goal.bounds-nodes-0
bounds-nodes-0 c = search answering

pub kth_layer-reached-requires : goal.kth_layer-reached-requires
kth_layer-reached-requires c = search answering

pub entry_at-requires : goal.entry_at-requires
entry_at-requires c = search answering

pub returns-in-Here : goal.returns-in-Here
returns-in-Here c = search answering

pub returns-in-Beyond : goal.returns-in-Beyond
returns-in-Beyond c = search answering
