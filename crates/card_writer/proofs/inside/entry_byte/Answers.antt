-- `inside::entry_byte` meets its contract. Assumes nothing.
use Rattle.card_writer.proofs.Pieces.{byte-of-length, byte-of-key, byte-of-frame, byte_past}
use Rattle.card_writer.proofs.inside.entry_byte.Goals as goal

pub returns-then-at-lt2 : goal.returns-then-at-lt2
returns-then-at-lt2 c = search (byte-of-length, byte-of-key, byte-of-frame, byte_past)

pub returns-then-o-len : goal.returns-then-o-len
returns-then-o-len c = search (byte-of-length, byte-of-key, byte-of-frame, byte_past)

pub returns-then-f-lt8 : goal.returns-then-f-lt8
returns-then-f-lt8 c = search (byte-of-length, byte-of-key, byte-of-frame, byte_past)

pub returns : goal.returns
returns c = search (byte-of-length, byte-of-key, byte-of-frame, byte_past)
