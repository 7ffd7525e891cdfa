-- `inside::cursor_byte` meets its contract. Assumes nothing.
use Rattle.card_writer.proofs.Cursors.{byte-here, byte-none}
use Rattle.card_writer.proofs.inside.cursor_byte.Goals as goal

pub returns-then-n-p : goal.returns-then-n-p
returns-then-n-p c = search (byte-here, byte-none)

pub returns : goal.returns
returns c = search (byte-here, byte-none)
