-- `firmware::nodes::cherchivola_find_insert_position` meets its contract: it crosses as the call's answer does. Assumes nothing.
use Rattle.nodes_crossing.proofs.Crosses.{find-crosses}
use Rattle.firmware.proofs.nodes.cherchivola_find_insert_position.Goals as goal

pub returns : goal.returns
returns c = search find-crosses
