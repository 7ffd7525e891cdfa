-- `inside::free_cells` meets its contract. Assumes nothing.
use mathlib.Core.Path.{ap, ◌∙◌}
use lib.ListN.{length}
use Rattle.lent_nodes.proofs.Frees.{every-cell}
use Rattle.lent_nodes.proofs.inside.free_cells.Goals as goal

pub returns : goal.returns
returns c = c.count_zeros.ensures ∙ ap length (every-cell c.args.cells.now c.args.n)
