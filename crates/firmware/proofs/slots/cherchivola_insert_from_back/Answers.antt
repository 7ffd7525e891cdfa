-- `firmware::slots::cherchivola_insert_from_back` meets its contract: it crosses as the rule's answer does. Assumes nothing.
use Rattle.crossing.proofs.Crosses.{crosses-as}
use Rattle.firmware.proofs.slots.cherchivola_insert_from_back.Goals as goal

pub returns : goal.returns
returns c = search crosses-as
