-- `firmware::keys::cherchivola_key_compare` meets its contract: it crosses as the call's answer does. Assumes nothing.
use Rattle.crossing.proofs.Crosses.{crosses-as}
use Rattle.firmware.proofs.keys.cherchivola_key_compare.Goals as goal

pub returns : goal.returns
returns c = search crosses-as
