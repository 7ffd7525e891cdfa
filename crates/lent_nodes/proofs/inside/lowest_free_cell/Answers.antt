-- `inside::lowest_free_cell` meets its contract. Assumes nothing.
use mathlib.Core.Path.{ap, ◌∙◌}
use Rattle.lent_nodes.specs.Free.{lowest}
use Rattle.lent_nodes.proofs.Frees.{every-cell}
use Rattle.lent_nodes.proofs.inside.lowest_free_cell.Goals as goal

pub returns : goal.returns
returns c = c.lowest_zero.ensures ∙ ap lowest (every-cell c.args.cells.now c.args.n)
