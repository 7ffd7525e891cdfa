-- `firmware::wide::cherchivola_wide_insert_first_free` meets its contract: it crosses as the rule's answer does. Assumes nothing.
use Rattle.crossing.proofs.Crosses.{crosses-as}
use Rattle.firmware.proofs.wide.cherchivola_wide_insert_first_free.Goals as goal

pub returns : goal.returns
returns c = search crosses-as
