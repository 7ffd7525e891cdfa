-- `inside::blocks` meets its contract. Assumes nothing.
use Rattle.card_lines.proofs.Prints.{decimal-room, word_room, blocks-typed}
use Rattle.card_lines.proofs.inside.blocks.Goals as goal

pub decimal-next-requires : goal.decimal-next-requires
decimal-next-requires c = search decimal-room

pub append-requires : goal.append-requires
append-requires c = search word_room

pub returns : goal.returns
returns c = search blocks-typed
