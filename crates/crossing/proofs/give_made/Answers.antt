-- `crossing::give_made` meets its contract: a law for each case of the answer. Assumes nothing.
use Rattle.crossing.proofs.Crosses.{made_word, made-refused}
use Rattle.crossing.proofs.give_made.Goals as goal

pub returns-in-Ok : goal.returns-in-Ok
returns-in-Ok c = search made_word

pub returns-in-Err : goal.returns-in-Err
returns-in-Err c = search made-refused
