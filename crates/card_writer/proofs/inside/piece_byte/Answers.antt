-- `inside::piece_byte` meets its contract. Assumes nothing.
use Rattle.card_writer.proofs.Pieces.{piece-room}
use Rattle.card_writer.proofs.Cursors.{piece-number, piece-past, piece-entry}
use borrow.Author.Rules.{rules}
use Rattle.card_writer.proofs.inside.piece_byte.Goals as goal

pub returns-then-at-lt4 : goal.returns-then-at-lt4
returns-then-at-lt4 c = search (piece-number, piece-past, piece-entry)

pub returns-then-p-eq0 : goal.returns-then-p-eq0
returns-then-p-eq0 c = search (piece-number, piece-past, piece-entry)

pub entry_byte-requires : goal.entry_byte-requires
entry_byte-requires c = (search rules, search piece-room, search rules)

pub returns : goal.returns
returns c = search (piece-number, piece-past, piece-entry)
