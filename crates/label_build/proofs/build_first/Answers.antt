-- `label_build::build_first` meets its contract. Assumes nothing.
use Rattle.label_build.proofs.Bytes.{first-built}
use Rattle.label_build.proofs.build_first.Goals as goal

pub returns : goal.returns
returns c = search first-built
