-- `inside::measured` meets its contract. Assumes nothing.
use Rattle.card_fields.proofs.Ways.{keys}
use Rattle.card_fields.proofs.inside.measured.Goals as goal

pub returns-then-len-gt256 : goal.returns-then-len-gt256
returns-then-len-gt256 c = search keys

pub returns-then-len-eq0 : goal.returns-then-len-eq0
returns-then-len-eq0 c = search keys

pub returns : goal.returns
returns c = search keys
