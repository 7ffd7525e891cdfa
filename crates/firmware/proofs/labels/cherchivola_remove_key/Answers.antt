-- `firmware::labels::cherchivola_remove_key` meets its contract: it crosses as what the call did. Assumes nothing.
use Rattle.index_crossing.proofs.Crosses.{done-crosses}
use Rattle.firmware.proofs.labels.cherchivola_remove_key.Goals as goal

pub returns : goal.returns
returns c = search done-crosses
