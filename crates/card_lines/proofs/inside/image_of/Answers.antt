-- `inside::image_of` meets its contract. Assumes nothing.
use Rattle.card_lines.proofs.Images.{image-blocks, image-short, image-none}
use Rattle.card_lines.proofs.inside.image_of.Goals as goal

pub returns-in-Blocks : goal.returns-in-Blocks
returns-in-Blocks c = search image-blocks

pub returns-in-Short : goal.returns-in-Short
returns-in-Short c = search image-short

pub returns-in-Refused : goal.returns-in-Refused
returns-in-Refused c = search image-none
