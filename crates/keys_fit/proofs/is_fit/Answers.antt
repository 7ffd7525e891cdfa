-- `keys_fit::is_fit` meets its contract. Assumes nothing.
use Rattle.key_layer.proofs.Fitting.{fittings}
use Rattle.keys_fit.proofs.is_fit.Goals as goal
use Rattle.keys_fit.proofs.is_fit.Goals.{
  then-bytes-gt-LONGEST-via-then-bytes-gt-LONGEST,
  then-bytes-gt-LONGEST-via-else-bytes-gt-LONGEST+then-not-is_reached,
}

pub returns-then-bytes-gt-LONGEST : goal.returns-then-bytes-gt-LONGEST
returns-then-bytes-gt-LONGEST c = elim c.then-bytes-gt-LONGEST.branch [
  | then-bytes-gt-LONGEST-via-then-bytes-gt-LONGEST w ↦ search fittings
  | then-bytes-gt-LONGEST-via-else-bytes-gt-LONGEST+then-not-is_reached w ↦ search fittings
]

pub layer-here-requires : goal.layer-here-requires
layer-here-requires c = search fittings

pub returns-then-here-ikey : goal.returns-then-here-ikey
returns-then-here-ikey c = search fittings

pub returns-else-here-ikey : goal.returns-else-here-ikey
returns-else-here-ikey c = search fittings
