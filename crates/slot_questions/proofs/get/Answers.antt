-- `get` meets its contract. Assumes nothing.
use Rattle.slot_answers.proofs.Calls.{asks, calls}
use Rattle.slot_questions.proofs.get.Goals as goal

pub returns-in_err-judged : goal.returns-in_err-judged
returns-in_err-judged c = search calls

pub returns-then-width-i : goal.returns-then-width-i
returns-then-width-i c = search calls

pub nibble-requires : goal.nibble-requires
nibble-requires c = search asks

pub returns : goal.returns
returns c = search calls
