-- `card_filing::inside::enter` meets its contract. Assumes nothing.
use borrow.Author.Rules.{rules}
use Rattle.card_fields.proofs.Small.{next_fits}
use Rattle.card_filing.proofs.Enters.{enter-done}
use Rattle.card_filing.proofs.inside.enter.Goals as goal

pub put_gained-next-requires : goal.put_gained-next-requires
put_gained-next-requires c = (search rules, search next_fits, search rules)

pub returns : goal.returns
returns c = search enter-done
