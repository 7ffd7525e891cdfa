-- `card_filing::inside::put_gained` meets its contract. Assumes nothing.
use borrow.Author.Rules.{rules}
use borrow.Author.Tests.{not-true, not-false}
use Rattle.card_filing.proofs.Enters.{entered-key, gained-put, gained-none}
use Rattle.card_filing.proofs.inside.put_gained.Goals as goal

pub and_put-requires : goal.and_put-requires
and_put-requires c = (search rules, search entered-key)

pub returns-then-t : goal.returns-then-t
returns-then-t c = search gained-put

pub returns : goal.returns
returns c = search (gained-none, not-true, not-false)
