-- `remove_to_back` meets its contract. Assumes nothing.
use Rattle.wide_answers.proofs.Asks.{asks}
use Rattle.wide_answers.proofs.Calls.{calls}
use Rattle.wide_remove.proofs.remove_to_back.Goals as goal

pub returns-in_err-judged : goal.returns-in_err-judged
returns-in_err-judged c = search calls

pub returns-then-size-i : goal.returns-then-size-i
returns-then-size-i c = search calls

pub moved-requires : goal.moved-requires
moved-requires c = search asks

pub returns : goal.returns
returns c = search calls
