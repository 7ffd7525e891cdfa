-- `firmware::card::cherchivola_save` meets its contract: it crosses as what the call did. Assumes nothing.
use Rattle.card_crossing.proofs.Crosses.{out-crosses}
use Rattle.firmware.proofs.card.cherchivola_save.Goals as goal

pub returns : goal.returns
returns c = search out-crosses
