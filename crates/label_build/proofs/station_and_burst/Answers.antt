-- `label_build::station_and_burst` meets its contract. Assumes nothing.
use Rattle.label_build.proofs.Bytes.{station-burst}
use Rattle.label_build.proofs.station_and_burst.Goals as goal

pub returns : goal.returns
returns c = station-burst _ _
