-- `index_questions::find` meets its contract. Assumes nothing.
use Rattle.index_questions.proofs.Answering.{answering}
use Rattle.index_questions.proofs.find.Goals as goal

pub returns-then-key-gt-LONGEST : goal.returns-then-key-gt-LONGEST
returns-then-key-gt-LONGEST c = search answering

pub returns-then-not-is_tree : goal.returns-then-not-is_tree
returns-then-not-is_tree c = search answering

pub bounds-nodes-0 : goal.bounds-nodes-0
bounds-nodes-0 c = search answering

pub seek-met-requires : goal.seek-met-requires
seek-met-requires c = search answering

pub frame-frame-requires : goal.frame-frame-requires
frame-frame-requires c = search answering

pub returns-in-Stored : goal.returns-in-Stored
returns-in-Stored c = search answering

pub returns : goal.returns
returns c = search answering
