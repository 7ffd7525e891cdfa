-- `firmware::nodes::cherchivola_insert_key_and_child` meets its contract: it crosses as the call's answer does. Assumes nothing.
use Rattle.nodes_crossing.proofs.Crosses.{insert-crosses}
use Rattle.firmware.proofs.nodes.cherchivola_insert_key_and_child.Goals as goal

pub returns : goal.returns
returns c = search insert-crosses
