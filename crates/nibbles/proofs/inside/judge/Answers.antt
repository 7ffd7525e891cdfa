-- `inside::judge` meets its contract. Assumes nothing.
use Rattle.nibbles.proofs.Words.{judges}
use Rattle.nibbles.proofs.inside.judge.Goals as goal

pub returns-then-width-lt1 : goal.returns-then-width-lt1
returns-then-width-lt1 c = search judges

pub returns-then-not-valid : goal.returns-then-not-valid
returns-then-not-valid c = search judges

pub returns : goal.returns
returns c = search judges
