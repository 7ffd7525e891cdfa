-- `insert_first_free` meets its contract. Assumes nothing.
use Rattle.slot_answers.proofs.Calls.{asks, calls}
use Rattle.slots_remove.proofs.insert_first_free.Goals as goal

pub returns-in_err-judged : goal.returns-in_err-judged
returns-in_err-judged c = search calls

pub returns-then-size-i : goal.returns-then-size-i
returns-then-size-i c = search calls

pub returns-then-width-size : goal.returns-then-width-size
returns-then-width-size c = search calls

pub moved-requires : goal.moved-requires
moved-requires c = search asks

pub returns : goal.returns
returns c = search calls
