-- `back_at_offset` meets its contract. Assumes nothing.
use Rattle.slot_answers.proofs.Calls.{asks, calls}
use Rattle.slot_questions.proofs.back_at_offset.Goals as goal

pub returns-in_err-judged : goal.returns-in_err-judged
returns-in_err-judged c = search calls

pub overflow_sub-width : goal.overflow_sub-width
overflow_sub-width c = search asks

pub returns-then-width-size_of : goal.returns-then-width-size_of
returns-then-width-size_of c = search calls

pub nibble-requires : goal.nibble-requires
nibble-requires c = search asks

pub returns : goal.returns
returns c = search calls
