-- `fields::is_key` meets its contract. Assumes nothing.
use Rattle.text.proofs.Keys.{key-dash, key-pairs}
use Rattle.text.proofs.fields.is_key.Goals as goal

pub returns-then-same : goal.returns-then-same
returns-then-same c = search key-dash

pub returns : goal.returns
returns c = search key-pairs
