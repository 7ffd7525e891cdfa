-- `firmware::wide::cherchivola_wide_remove_to_back` meets its contract: it crosses as the rule's answer does. Assumes nothing.
use Rattle.crossing.proofs.Crosses.{crosses-as}
use Rattle.firmware.proofs.wide.cherchivola_wide_remove_to_back.Goals as goal

pub returns : goal.returns
returns c = search crosses-as
