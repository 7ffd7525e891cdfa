-- `firmware::slots::cherchivola_back_at_offset` meets its contract: it crosses as the rule's answer does. Assumes nothing.
use Rattle.crossing.proofs.Crosses.{crosses-as}
use Rattle.firmware.proofs.slots.cherchivola_back_at_offset.Goals as goal

pub returns : goal.returns
returns c = search crosses-as
