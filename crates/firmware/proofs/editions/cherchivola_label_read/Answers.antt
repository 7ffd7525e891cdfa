-- `firmware::editions::cherchivola_label_read` meets its contract: it crosses as the call's answer does. Assumes nothing.
use Rattle.crossing.proofs.Crosses.{both-crosses-as}
use Rattle.firmware.proofs.editions.cherchivola_label_read.Goals as goal

pub returns : goal.returns
returns c = search both-crosses-as
