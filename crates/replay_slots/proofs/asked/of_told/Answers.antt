-- `replay_slots::asked::of_told` meets its contract: a law for each case of the answer.
use Rattle.replay_slots.proofs.Says.{told-number, told-refused}
use Rattle.replay_slots.proofs.asked.of_told.Goals as goal

pub returns-in-Ok : goal.returns-in-Ok
returns-in-Ok c = search told-number

pub returns-in-Err : goal.returns-in-Err
returns-in-Err c = search told-refused
