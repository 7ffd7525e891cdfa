-- `leaf::inside::in_lent` meets its contract. Assumes nothing.
use Rattle.leaf.proofs.Searches.{lent-bad, lent_key, lent-searchable, lent-outcome}
use Rattle.leaf.proofs.inside.in_lent.Goals as goal

pub returns-then-not-are_good : goal.returns-then-not-are_good
returns-then-not-are_good c = search lent-bad

pub returns-then-not-is_fit : goal.returns-then-not-is_fit
returns-then-not-is_fit c = search lent_key

pub scan-requires : goal.scan-requires
scan-requires c =
    lent-searchable _ _ _ _ _ _ _ _ c.are_good.ensures c.if-not-are_good.false-raw
    c.is_fit.ensures c.if-not-is_fit.false-raw c.requires.0 c.requires.1

pub returns : goal.returns
returns c = search lent-outcome
