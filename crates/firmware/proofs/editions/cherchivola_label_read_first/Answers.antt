-- `firmware::editions::cherchivola_label_read_first` meets its contract: it crosses as the call's answer does. Assumes nothing.
use Rattle.crossing.proofs.Crosses.{both-crosses-as}
use Rattle.firmware.proofs.editions.cherchivola_label_read_first.Goals as goal

pub returns : goal.returns
returns c = search both-crosses-as
