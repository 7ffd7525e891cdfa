-- `insert_from_back` meets its contract. Assumes nothing.
use Rattle.slot_answers.proofs.Calls.{inserts}
use Rattle.slots_insert.proofs.insert_from_back.Goals as goal

pub returns-then-size-i : goal.returns-then-size-i
returns-then-size-i c = search inserts

pub returns-then-width-size : goal.returns-then-width-size
returns-then-width-size c = search inserts

pub returns-then-width-gt15 : goal.returns-then-width-gt15
returns-then-width-gt15 c = search inserts

pub returns-then-not-valid : goal.returns-then-not-valid
returns-then-not-valid c = search inserts

pub inserted-requires : goal.inserted-requires
inserted-requires c = search inserts

pub returns : goal.returns
returns c = search inserts
