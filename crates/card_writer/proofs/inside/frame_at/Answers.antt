-- `inside::frame_at` meets its contract. Assumes nothing.
use Rattle.card_writer.proofs.Pieces.{frame-read}
use Rattle.card_writer.proofs.inside.frame_at.Goals as goal

pub returns : goal.returns
returns c = search frame-read
