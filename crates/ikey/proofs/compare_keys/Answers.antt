-- `ikey::compare_keys` meets its contract. Assumes nothing.
use Rattle.ikey.proofs.Orders.{whole}
use Rattle.ikey.proofs.compare_keys.Goals as goal

pub returns-then-a-gt-LONGEST : goal.returns-then-a-gt-LONGEST
returns-then-a-gt-LONGEST c = search whole

pub returns : goal.returns
returns c = search whole
