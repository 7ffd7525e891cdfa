-- `inside::decimal` meets its contract: the digits before the last are those of the tenth part. Assumes nothing.
use borrow.Author.Rules.{rules}
use Rattle.page.proofs.Pages.{small-room, front-room, last-room, typed-small, typed-large}
use Rattle.page.proofs.inside.+decimal.Goals as goal

pub append_byte-requires : goal.append_byte-requires
append_byte-requires t c = search small-room

pub returns-then-n-lt10 : goal.returns-then-n-lt10
returns-then-n-lt10 t c = search typed-small

pub decimal-next-requires : goal.decimal-next-requires
decimal-next-requires t c = (search rules, search front-room)

pub append_byte-requires-2 : goal.append_byte-requires-2
append_byte-requires-2 t c = search last-room

pub returns : goal.returns
returns t c = search typed-large
