-- `inside::judge` meets its contract. Assumes nothing.
use Rattle.wide_bytes.proofs.Judging.{judges}
use Rattle.wide_bytes.proofs.inside.judge.Goals as goal

pub returns-then-width-lt16 : goal.returns-then-width-lt16
returns-then-width-lt16 c = search judges

pub returns-then-not-valid : goal.returns-then-not-valid
returns-then-not-valid c = search judges

pub returns : goal.returns
returns c = search judges
