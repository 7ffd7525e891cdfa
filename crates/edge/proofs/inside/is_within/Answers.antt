-- `edge::inside::is_within` meets its contract. Assumes nothing.
use Rattle.edge.proofs.Edges.{edges}
use Rattle.edge.proofs.inside.is_within.Goals as goal

pub returns-then-not-is_from : goal.returns-then-not-is_from
returns-then-not-is_from c = search edges

pub returns : goal.returns
returns c = search edges
