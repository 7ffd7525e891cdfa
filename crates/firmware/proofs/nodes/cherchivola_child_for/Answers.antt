-- `firmware::nodes::cherchivola_child_for` meets its contract: it crosses as the call's answer does. Assumes nothing.
use Rattle.nodes_crossing.proofs.Crosses.{child-crosses}
use Rattle.firmware.proofs.nodes.cherchivola_child_for.Goals as goal

pub returns : goal.returns
returns c = search child-crosses
