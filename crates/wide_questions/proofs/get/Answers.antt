-- `get` meets its contract. Assumes nothing.
use Rattle.wide_answers.proofs.Asks.{asks}
use Rattle.wide_answers.proofs.Calls.{calls}
use Rattle.wide_questions.proofs.get.Goals as goal

pub returns-in_err-judge : goal.returns-in_err-judge
returns-in_err-judge c = search calls

pub returns-then-width-i : goal.returns-then-width-i
returns-then-width-i c = search calls

pub byte-requires : goal.byte-requires
byte-requires c = search asks

pub returns : goal.returns
returns c = search calls
