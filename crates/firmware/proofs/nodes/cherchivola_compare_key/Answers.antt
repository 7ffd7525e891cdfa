-- `firmware::nodes::cherchivola_compare_key` meets its contract: it crosses as the call's answer does. Assumes nothing.
use Rattle.nodes_crossing.proofs.Crosses.{compare-crosses}
use Rattle.firmware.proofs.nodes.cherchivola_compare_key.Goals as goal

pub returns : goal.returns
returns c = search compare-crosses
