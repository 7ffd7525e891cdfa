-- `firmware::wide::cherchivola_wide_get` meets its contract: it crosses as the rule's answer does. Assumes nothing.
use Rattle.wide_crossing.proofs.Crosses.{asks-as}
use Rattle.firmware.proofs.wide.cherchivola_wide_get.Goals as goal

pub returns : goal.returns
returns c = search asks-as
