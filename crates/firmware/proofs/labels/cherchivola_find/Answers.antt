-- `firmware::labels::cherchivola_find` meets its contract: it crosses as the call's answer does. Assumes nothing.
use Rattle.crossing.proofs.Crosses.{crosses-as}
use Rattle.firmware.proofs.labels.cherchivola_find.Goals as goal

pub returns : goal.returns
returns c = search crosses-as
