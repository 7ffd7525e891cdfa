-- `card_filing::inside::key_of` meets its contract. Assumes nothing.
use Rattle.card_filing.proofs.Enters.{key-empty, key-first}
use Rattle.card_filing.proofs.inside.key_of.Goals as goal

pub returns-then-last-eq0 : goal.returns-then-last-eq0
returns-then-last-eq0 c = search key-empty

pub returns : goal.returns
returns c = search key-first
