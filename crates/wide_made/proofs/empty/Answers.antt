-- `empty` meets its contract. Assumes nothing.
use Rattle.wide_answers.proofs.Calls.{made}
use Rattle.wide_made.proofs.empty.Goals as goal

pub returns : goal.returns
returns c = search made
