-- `set_size` meets its contract. Assumes nothing.
use Rattle.slot_answers.proofs.Calls.{asks, calls}
use Rattle.slot_places.proofs.set_size.Goals as goal

pub returns-in_err-judged : goal.returns-in_err-judged
returns-in_err-judged c = search calls

pub returns-then-width-n : goal.returns-then-width-n
returns-then-width-n c = search calls

pub resize-requires : goal.resize-requires
resize-requires c = search asks

pub returns : goal.returns
returns c = search calls
