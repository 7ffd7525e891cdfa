-- `firmware::card::cherchivola_load` meets its contract: it crosses as what the call did. Assumes nothing.
use Rattle.index_crossing.proofs.Crosses.{both-crosses}
use Rattle.firmware.proofs.card.cherchivola_load.Goals as goal

pub returns : goal.returns
returns c = search both-crosses
