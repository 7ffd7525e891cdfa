-- `size` meets its contract. Assumes nothing.
use Rattle.wide_answers.proofs.Calls.{calls}
use Rattle.wide_questions.proofs.size.Goals as goal

pub returns-in_err-judge : goal.returns-in_err-judge
returns-in_err-judge c = search calls

pub returns : goal.returns
returns c = search calls
