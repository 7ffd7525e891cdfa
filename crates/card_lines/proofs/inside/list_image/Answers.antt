-- `inside::list_image` meets its contract. Assumes nothing.
use Rattle.card_lines.proofs.Prints.{refusal-room, image-refused, image-listed}
use Rattle.card_lines.proofs.inside.list_image.Goals as goal

pub refused-requires : goal.refused-requires
refused-requires c = search refusal-room

pub returns-then-refused-ne0 : goal.returns-then-refused-ne0
returns-then-refused-ne0 c = search image-refused

pub returns : goal.returns
returns c = search image-listed
