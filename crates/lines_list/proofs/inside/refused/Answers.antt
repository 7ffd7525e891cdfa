-- `inside::refused` meets its contract. Assumes nothing.
use Rattle.lines_list.proofs.Rooms.{refused-room, refused_as}
use Rattle.lines_list.proofs.inside.refused.Goals as goal

pub refused-requires : goal.refused-requires
refused-requires c = search refused-room

pub returns : goal.returns
returns c = search refused_as
