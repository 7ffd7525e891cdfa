-- `inside::read_two` meets its contract. Assumes nothing.
use borrow.Author.Rules.{rules}
use Rattle.text.proofs.Wishes.{key_right, not_key, is-find, is-del, neither}
use Rattle.text.proofs.inside.read_two.Goals as goal

pub returns-then-not-is_key : goal.returns-then-not-is_key
returns-then-not-is_key c = search not_key

pub key_to-requires : goal.key_to-requires
key_to-requires c = (search key_right, search rules)

pub returns-then-same : goal.returns-then-same
returns-then-same c = search is-find

pub key_to-requires-then-same-2 : goal.key_to-requires-then-same-2
key_to-requires-then-same-2 c = (search key_right, search rules)

pub returns-then-same-2 : goal.returns-then-same-2
returns-then-same-2 c = search is-del

pub returns : goal.returns
returns c = search neither
