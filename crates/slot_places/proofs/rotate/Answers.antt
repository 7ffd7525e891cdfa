-- `rotate` meets its contract. Assumes nothing.
use Rattle.slot_answers.proofs.Calls.{asks, calls}
use Rattle.slot_places.proofs.rotate.Goals as goal

pub returns-in_err-judged : goal.returns-in_err-judged
returns-in_err-judged c = search calls

pub returns-then-j-i : goal.returns-then-j-i
returns-then-j-i c = search calls

pub moved-requires : goal.moved-requires
moved-requires c = search asks

pub returns : goal.returns
returns c = search calls
