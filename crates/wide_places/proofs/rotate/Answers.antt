-- `rotate` meets its contract. Assumes nothing.
use Rattle.wide_answers.proofs.Asks.{asks}
use Rattle.wide_answers.proofs.Calls.{Passes, calls}
use Rattle.wide_places.proofs.rotate.Goals as goal

pub returns-in_err-judged : goal.returns-in_err-judged
returns-in_err-judged c = search calls

pub returns-then-j-i : goal.returns-then-j-i
returns-then-j-i c = search calls

pub moved-requires : goal.moved-requires
moved-requires c = search asks

pub returns : goal.returns
returns c = let p : Passes c.args.width c.args.bank = search calls in search calls
