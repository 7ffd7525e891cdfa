-- `keys_made::new` meets its contract. Assumes nothing.
use Rattle.key_layer.proofs.Calls.{moving}
use Rattle.keys_made.proofs.new.Goals as goal

pub returns-then-bytes-gt-LONGEST : goal.returns-then-bytes-gt-LONGEST
returns-then-bytes-gt-LONGEST c = search moving

pub returns : goal.returns
returns c = search moving
