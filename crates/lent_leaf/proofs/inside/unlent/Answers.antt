-- `lent_leaf::inside::unlent` meets its contract. Assumes nothing.
use Rattle.lent_leaf.proofs.Counted.{other_word, other-rest}
use Rattle.lent_leaf.proofs.inside.unlent.Goals as goal

pub returns-then-not-is_valid : goal.returns-then-not-is_valid
returns-then-not-is_valid c = search other_word

pub returns : goal.returns
returns c = search other-rest
