-- `audit_seen::inside::see_number` meets its contract. Assumes nothing.
use Rattle.audit_seen.proofs.Numbers.{sees}
use Rattle.audit_seen.proofs.inside.see_number.Goals as goal

pub bounds-seen-i : goal.bounds-seen-i
bounds-seen-i c = search sees

pub returns-then-seen-i-ne0 : goal.returns-then-seen-i-ne0
returns-then-seen-i-ne0 c = search sees

pub bounds-seen-i-2 : goal.bounds-seen-i-2
bounds-seen-i-2 c = search sees

pub shape_of-seen : goal.shape_of-seen
shape_of-seen c = search sees

pub returns : goal.returns
returns c = search sees
