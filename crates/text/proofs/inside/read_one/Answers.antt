-- `inside::read_one` meets its contract. Assumes nothing.
use Rattle.text.proofs.Wishes.{is-list, not-list}
use Rattle.text.proofs.inside.read_one.Goals as goal

pub returns-then-same : goal.returns-then-same
returns-then-same c = search is-list

pub returns : goal.returns
returns c = search not-list
