-- `inside::read_line` meets its contract. Assumes nothing.
use Rattle.text.proofs.Lines.{too_long, not-long}
use Rattle.text.proofs.inside.read_line.Goals as goal

pub returns-then-line-gt1200 : goal.returns-then-line-gt1200
returns-then-line-gt1200 c = search too_long

pub returns : goal.returns
returns c = search not-long
