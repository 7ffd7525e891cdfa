-- `keys_parts::inside::refusal_of` meets its contract. Assumes nothing.
use Rattle.key_layer.proofs.Calls.{numbering}
use Rattle.keys_parts.proofs.inside.refusal_of.Goals as goal

pub returns-then-not-is_fit : goal.returns-then-not-is_fit
returns-then-not-is_fit c = search numbering

pub returns : goal.returns
returns c = search numbering
