-- `fields::key_to` meets its contract. Assumes nothing.
use borrow.Author.Rules.{rules}
use Rattle.text.proofs.Keys.{dash-length, dash-bytes, only-pairs, key-length, key-bytes}
use Rattle.text.proofs.fields.key_to.Goals as goal

pub returns-then-same : goal.returns-then-same
returns-then-same c = (search dash-length, search dash-bytes)

pub pairs_to-requires : goal.pairs_to-requires
pairs_to-requires c = (search only-pairs, search rules)

pub returns : goal.returns
returns c = (search key-length, search key-bytes)
