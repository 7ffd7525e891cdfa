-- `inside::end_of` meets its contract. Assumes nothing.
use Rattle.card_reader.proofs.Ends.{end-right, end-early, end-other}
use Rattle.card_reader.proofs.inside.end_of.Goals as goal

pub returns-then-t-eq0 : goal.returns-then-t-eq0
returns-then-t-eq0 c = search end-right

pub returns-else-t-eq0 : goal.returns-else-t-eq0
returns-else-t-eq0 c = search end-early

pub returns-in_default : goal.returns-in_default
returns-in_default c = end-other _ _ c.args.t.stage c.in_default.not-Filling
