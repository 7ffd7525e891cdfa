-- `make_sorted` meets its contract. Assumes nothing.
use Rattle.slot_answers.proofs.Making.{made}
use Rattle.slots_made.proofs.make_sorted.Goals as goal

pub returns-then-width-lt1 : goal.returns-then-width-lt1
returns-then-width-lt1 c = search made

pub returns-then-width-n : goal.returns-then-width-n
returns-then-width-n c = search made

pub returns : goal.returns
returns c = search made
