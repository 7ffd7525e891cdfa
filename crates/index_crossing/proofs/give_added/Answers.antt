-- `index_crossing::give_added` meets its contract: a law for each case of the answer. Assumes nothing.
use mathlib.Core.Path.{◌≡◌}
use Rattle.index_put.specs.declared.PutRefused.TheVariants as put_no
use Rattle.index_crossing.proofs.Crosses.{added-done, added-few, added-refused}
use Rattle.index_crossing.proofs.give_added.Goals as goal

pub returns-in-Ok : goal.returns-in-Ok
returns-in-Ok c = search added-done

pub returns-in-Err-TooFewNodes : goal.returns-in-Err-TooFewNodes
returns-in-Err-TooFewNodes c =
    let h = c.in-Err-TooFewNodes in
    let w : h.field-0 ≡ put_no.TooFewNodes h.n = rw h.is at h.field-0-is in search added-few

pub returns-in-Err-Refused : goal.returns-in-Err-Refused
returns-in-Err-Refused c =
    let h = c.in-Err-Refused in
    let w : h.field-0 ≡ put_no.Refused h.why = rw h.is at h.field-0-is in search added-refused
