-- `label_build::build_second` meets its contract. Assumes nothing.
use Rattle.label_build.proofs.Bytes.{second-built}
use Rattle.label_build.proofs.build_second.Goals as goal

pub returns : goal.returns
returns c = search second-built
