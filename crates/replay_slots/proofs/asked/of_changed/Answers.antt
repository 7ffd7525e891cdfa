-- `replay_slots::asked::of_changed` meets its contract: a law for each case of the answer.
use Rattle.replay_slots.proofs.Says.{changed-refused, changed-word}
use Rattle.replay_slots.proofs.asked.of_changed.Goals as goal

pub returns-in-Ok : goal.returns-in-Ok
returns-in-Ok c = search changed-word

pub returns-in-Err : goal.returns-in-Err
returns-in-Err c = search changed-refused
