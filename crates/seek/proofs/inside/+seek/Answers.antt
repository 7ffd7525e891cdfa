-- `seek::inside::seek` meets its contract. Assumes nothing.
use Prim.Native.Nat.{◌-◌}
use borrow.Author.Rules.{rules}
use Rattle.seek.proofs.Seeks.{seeks, seek-down}
use Rattle.seek.proofs.inside.+seek.Goals as goal

pub returns-then-size_of-p-clause-value : goal.returns-then-size_of-p-clause-value
returns-then-size_of-p-clause-value t c = search seeks

pub returns-then-has_key-clause-value : goal.returns-then-has_key-clause-value
returns-then-has_key-clause-value t c = search seeks

pub returns-then-has_key-clause-within : goal.returns-then-has_key-clause-within
returns-then-has_key-clause-within t c = (search seeks, search rules, search seeks)

pub returns-then-e-ne10-clause-value : goal.returns-then-e-ne10-clause-value
returns-then-e-ne10-clause-value t c = search seeks

pub returns-then-e-ne10-clause-within : goal.returns-then-e-ne10-clause-within
returns-then-e-ne10-clause-within t c = (search seeks, search rules, search rules)

pub number_word-below-requires : goal.number_word-below-requires
number_word-below-requires t c = search seeks

pub returns-then-links-eq31-clause-value : goal.returns-then-links-eq31-clause-value
returns-then-links-eq31-clause-value t c = search seeks

pub returns-clause-value : goal.returns-clause-value
returns-clause-value t c = search (seek-down, c.requires.key_len_bound.1)

pub returns-clause-within : goal.returns-clause-within
returns-clause-within t c = c.seek.ensures.within
