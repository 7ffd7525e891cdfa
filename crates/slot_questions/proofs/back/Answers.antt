-- `back` meets its contract. Assumes nothing.
use Rattle.slot_answers.proofs.Calls.{asks, calls}
use Rattle.slot_questions.proofs.back.Goals as goal

pub returns-in_err-judged : goal.returns-in_err-judged
returns-in_err-judged c = search calls

pub nibble-requires : goal.nibble-requires
nibble-requires c = search asks

pub returns : goal.returns
returns c = search calls
