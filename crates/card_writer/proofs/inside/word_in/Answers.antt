-- `inside::word_in` meets its contract. Assumes nothing.
use Rattle.card_writer.proofs.Pieces.{word-beyond, word-past}
use Rattle.card_writer.proofs.inside.word_in.Goals as goal

pub returns-then-cells-c : goal.returns-then-cells-c
returns-then-cells-c c = search word-beyond

pub returns-then-cells-at : goal.returns-then-cells-at
returns-then-cells-at c = search word-past
