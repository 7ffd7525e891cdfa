-- `replay_slots::asked::of_made` meets its contract: a law for each case of the answer.
use Rattle.replay_slots.proofs.Says.{made-refused, made_word}
use Rattle.replay_slots.proofs.asked.of_made.Goals as goal

pub returns-in-Ok : goal.returns-in-Ok
returns-in-Ok c = search made_word

pub returns-in-Err : goal.returns-in-Err
returns-in-Err c = search made-refused
