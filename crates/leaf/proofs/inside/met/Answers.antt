-- `leaf::inside::met` meets its contract. Assumes nothing.
use Rattle.leaf.proofs.Searches.{searches, met-suffix}
use Rattle.leaf.proofs.inside.met.Goals as goal

pub returns-then-e-eq10 : goal.returns-then-e-eq10
returns-then-e-eq10 c = search searches

pub returns-then-e-ne9 : goal.returns-then-e-ne9
returns-then-e-ne9 c = search searches

pub is_suffix-requires : goal.is_suffix-requires
is_suffix-requires c =
    met-suffix _ _ c.args.key.now _ c.args.e c.requires.0 c.requires.1 c.if-e-eq10.false c.requires.2

pub returns-then-is_suffix : goal.returns-then-is_suffix
returns-then-is_suffix c = search searches

pub returns : goal.returns
returns c = search searches
