-- `nodes_cut::inside::cut` meets its contract. Assumes nothing.
use mathlib.Core.Path.{refl}
use Rattle.nodes_cut.proofs.Cuts.{cuts}
use Rattle.nodes_cut.proofs.inside.cut.Goals as goal

pub loop-far-init : goal.loop-far-init
loop-far-init c = refl

pub returns-then-entries-far : goal.returns-then-entries-far
returns-then-entries-far c = search cuts

pub returns-then-entries-far-2 : goal.returns-then-entries-far-2
returns-then-entries-far-2 c = search cuts

pub loop-far-preserved : goal.loop-far-preserved
loop-far-preserved c = search cuts

pub returns : goal.returns
returns c = search cuts
