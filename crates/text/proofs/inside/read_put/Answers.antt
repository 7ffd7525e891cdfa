-- `inside::read_put` meets its contract. Assumes nothing.
use Rattle.text.proofs.Wishes.{is_framed, not-framed}
use Rattle.text.proofs.inside.read_put.Goals as goal

pub returns-in-Some : goal.returns-in-Some
returns-in-Some c = search is_framed

pub returns : goal.returns
returns c = search not-framed
