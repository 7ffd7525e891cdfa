-- `inside::and_put` meets its contract. Assumes nothing.
use Rattle.card_filing.proofs.Enters.{put_on, put_refused}
use Rattle.card_filing.proofs.inside.and_put.Goals as goal

pub returns-in-Ok : goal.returns-in-Ok
returns-in-Ok c = search put_on

pub returns-in-Err : goal.returns-in-Err
returns-in-Err c = search put_refused
