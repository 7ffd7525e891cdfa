-- `make_sorted` meets its contract. Assumes nothing.
use Rattle.wide_answers.proofs.Calls.{made}
use Rattle.wide_made.proofs.make_sorted.Goals as goal

pub returns-then-width-lt16 : goal.returns-then-width-lt16
returns-then-width-lt16 c = search made

pub returns-then-width-n : goal.returns-then-width-n
returns-then-width-n c = search made

pub returns : goal.returns
returns c = search made
