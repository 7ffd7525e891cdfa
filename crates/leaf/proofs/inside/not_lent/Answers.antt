-- `leaf::inside::not_lent` meets its contract. Assumes nothing.
use Rattle.leaf.proofs.Searches.{searches}
use Rattle.leaf.proofs.inside.not_lent.Goals as goal

pub returns-then-not-is_fit : goal.returns-then-not-is_fit
returns-then-not-is_fit c = search searches

pub returns : goal.returns
returns c = search searches
