-- `firmware::labels::cherchivola_put` meets its contract: it crosses as what the call did. Assumes nothing.
use Rattle.index_crossing.proofs.Crosses.{both-crosses}
use Rattle.firmware.proofs.labels.cherchivola_put.Goals as goal

pub returns : goal.returns
returns c = search both-crosses
