-- `insert_from_back` meets its contract. Assumes nothing.
use Rattle.wide_answers.proofs.Asks.{asks}
use Rattle.wide_answers.proofs.Calls.{calls}
use Rattle.wide_insert.proofs.insert_from_back.Goals as goal

pub returns-in_err-judged : goal.returns-in_err-judged
returns-in_err-judged c = search calls

pub returns-then-size-i : goal.returns-then-size-i
returns-then-size-i c = search calls

pub returns-then-width-size : goal.returns-then-width-size
returns-then-width-size c = search calls

pub byte-requires : goal.byte-requires
byte-requires c = search asks

pub moved-requires : goal.moved-requires
moved-requires c = search asks

pub returns : goal.returns
returns c = search calls
