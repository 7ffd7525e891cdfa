-- `keys_read::read_ikey` meets its contract. Assumes nothing.
use Rattle.keys_read.proofs.Ikeys.{readings}
use Rattle.keys_read.proofs.read_ikey.Goals as goal

pub returns-then-n-offset : goal.returns-then-n-offset
returns-then-n-offset c = search readings

pub returns-then-n-offset-ge8 : goal.returns-then-n-offset-ge8
returns-then-n-offset-ge8 c = search readings

pub returns : goal.returns
returns c = search readings
