-- `firmware::keys::cherchivola_compare_keys` meets its contract: it crosses as the call's answer does. Assumes nothing.
use Rattle.crossing.proofs.Crosses.{crosses-as}
use Rattle.firmware.proofs.keys.cherchivola_compare_keys.Goals as goal

pub returns : goal.returns
returns c = search crosses-as
