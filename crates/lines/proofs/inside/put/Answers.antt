-- `inside::put` meets its contract. Assumes nothing.
use mathlib.Core.Path.{◌≡◌}
use Rattle.index_put.specs.declared.PutRefused.TheVariants as put_no
use Rattle.lines_list.proofs.Rooms.{few-nodes-room}
use Rattle.lines.proofs.Replies.{put-ok, put-few-nodes, put_refused}
use Rattle.lines.proofs.inside.put.Goals as goal

pub refused-requires : goal.refused-requires
refused-requires c = search few-nodes-room

pub returns-in-Ok : goal.returns-in-Ok
returns-in-Ok c = search put-ok

pub returns-in-Err-TooFewNodes : goal.returns-in-Err-TooFewNodes
returns-in-Err-TooFewNodes c =
    let h = c.in-Err-TooFewNodes in
    let w : h.field-0 ≡ put_no.TooFewNodes h._lacking = rw h.is at h.field-0-is in search put-few-nodes

pub returns-in-Err-Refused : goal.returns-in-Err-Refused
returns-in-Err-Refused c =
    let h = c.in-Err-Refused in
    let w : h.field-0 ≡ put_no.Refused h.why = rw h.is at h.field-0-is in search put_refused
