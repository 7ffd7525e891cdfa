-- `key_layer::inside::layer` meets its contract. Assumes nothing.
use Rattle.key_layer.proofs.Fitting.{fittings}
use Rattle.key_layer.proofs.inside.layer.Goals as goal

pub returns-then-n-offset-lt8 : goal.returns-then-n-offset-lt8
returns-then-n-offset-lt8 c = search fittings

pub returns : goal.returns
returns c = search fittings
