-- `remove_slot` meets its contract. Assumes nothing.
use Rattle.slot_answers.proofs.Calls.{asks, calls}
use Rattle.slots_remove.proofs.remove_slot.Goals as goal

pub returns-in_err-judged : goal.returns-in_err-judged
returns-in_err-judged c = search calls

pub place-at-requires : goal.place-at-requires
place-at-requires c = search asks

pub returns-then-size-at : goal.returns-then-size-at
returns-then-size-at c = search calls

pub moved-requires : goal.moved-requires
moved-requires c = search asks

pub returns : goal.returns
returns c = search calls
