-- `inside::find` meets its contract. Assumes nothing.
use Rattle.lines_list.proofs.Rooms.{number-room}
use Rattle.lines.proofs.Replies.{find-frame, find-refused}
use Rattle.lines.proofs.inside.find.Goals as goal

pub number-requires : goal.number-requires
number-requires c = search number-room

pub returns-in-Ok : goal.returns-in-Ok
returns-in-Ok c = search find-frame

pub returns-in-Err : goal.returns-in-Err
returns-in-Err c = search find-refused
