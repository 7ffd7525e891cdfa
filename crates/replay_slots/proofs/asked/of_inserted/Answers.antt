-- `replay_slots::asked::of_inserted` meets its contract: a law for each case of the answer.
use Rattle.replay_slots.proofs.Says.{inserted-refused, inserted-slot}
use Rattle.replay_slots.proofs.asked.of_inserted.Goals as goal

pub returns-in-Ok : goal.returns-in-Ok
returns-in-Ok c = search inserted-slot

pub returns-in-Err : goal.returns-in-Err
returns-in-Err c = search inserted-refused
