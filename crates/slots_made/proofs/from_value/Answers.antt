-- `from_value` meets its contract. Assumes nothing.
use Rattle.slot_answers.proofs.Calls.{asks, calls}
use Rattle.slots_made.proofs.from_value.Goals as goal

pub returns-in_err-judged : goal.returns-in_err-judged
returns-in_err-judged c = search calls

pub cleared-requires : goal.cleared-requires
cleared-requires c = search asks

pub returns : goal.returns
returns c = search calls
