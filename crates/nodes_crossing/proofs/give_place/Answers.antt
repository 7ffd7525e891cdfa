-- `nodes_crossing::give_place` meets its contract: a law for each case of the answer. Assumes nothing.
use Rattle.nodes_crossing.proofs.Crosses.{place_at, place-refused}
use Rattle.nodes_crossing.proofs.give_place.Goals as goal

pub returns-in-Ok : goal.returns-in-Ok
returns-in-Ok c = search place_at

pub returns-in-Err : goal.returns-in-Err
returns-in-Err c = search place-refused
