-- `firmware::slots::cherchivola_size` meets its contract: it crosses as the rule's answer does. Assumes nothing.
use Rattle.crossing.proofs.Crosses.{crosses-as}
use Rattle.firmware.proofs.slots.cherchivola_size.Goals as goal

pub returns : goal.returns
returns c = search crosses-as
