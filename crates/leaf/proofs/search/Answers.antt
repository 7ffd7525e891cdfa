-- `leaf::search` meets its contract. Assumes nothing.
use Rattle.leaf.proofs.Searches.{told-yes, said-word, said-unlent, said-lent}
use Rattle.leaf.proofs.search.Goals as goal

pub returns-then-not-is_valid : goal.returns-then-not-is_valid
returns-then-not-is_valid c = search said-word

pub returns-then-not-are_lent : goal.returns-then-not-are_lent
returns-then-not-are_lent c = search said-unlent

pub in_lent-requires : goal.in_lent-requires
in_lent-requires c = (
  told-yes c.is_valid.ensures c.if-not-is_valid.false-raw,
  told-yes c.are_lent.ensures
      c.if-not-are_lent.false-raw,
)

pub returns : goal.returns
returns c = search said-lent
