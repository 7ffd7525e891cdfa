-- `inside::refill` meets its contract. Assumes nothing.
use mathlib.Core.Path.{◌≡◌}
use borrow.Author.Rules.{rules}
use Rattle.index_put.specs.declared.PutRefused.TheVariants as put_no
use Rattle.card_filing.proofs.Enters.{right_kept}
use Rattle.card_load.proofs.Fills.{refill-done, refill-lacked, refill-refused}
use Rattle.card_load.proofs.inside.refill.Goals as goal

pub empty-requires : goal.empty-requires
empty-requires c = search (rules, right_kept)

pub empty-requires-in-Err-Refused : goal.empty-requires-in-Err-Refused
empty-requires-in-Err-Refused c = search (rules, right_kept)

pub returns-in-Ok : goal.returns-in-Ok
returns-in-Ok c = search refill-done

pub returns-in-Err-TooFewNodes : goal.returns-in-Err-TooFewNodes
returns-in-Err-TooFewNodes c =
    let h = c.in-Err-TooFewNodes in
    let w : h.field-0 ≡ put_no.TooFewNodes h.lacking = rw h.is at h.field-0-is in search refill-lacked

pub returns-in-Err-Refused : goal.returns-in-Err-Refused
returns-in-Err-Refused c =
    let h = c.in-Err-Refused in
    let w : h.field-0 ≡ put_no.Refused h.why = rw h.is at h.field-0-is in search refill-refused
