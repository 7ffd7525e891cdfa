-- `keys_read::inside::eight` meets its contract. Assumes nothing.
use Rattle.keys_read.proofs.Ikeys.{eight_is}
use Rattle.keys_read.proofs.inside.eight.Goals as goal

pub returns : goal.returns
returns c = search eight_is
