-- `size` meets its contract. Assumes nothing.
use Rattle.slot_answers.proofs.Calls.{calls}
use Rattle.slot_questions.proofs.size.Goals as goal

pub returns-in_err-judged : goal.returns-in_err-judged
returns-in_err-judged c = search calls

pub returns : goal.returns
returns c = search calls
