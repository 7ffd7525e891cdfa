-- `from_bytes` meets its contract. Assumes nothing.
use Rattle.wide_answers.proofs.Calls.{calls}
use Rattle.wide_made.proofs.from_bytes.Goals as goal

pub returns-in_err-judged : goal.returns-in_err-judged
returns-in_err-judged c = search calls

pub returns : goal.returns
returns c = search calls
