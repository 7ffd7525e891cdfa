-- `leaf_entries::inside::is_of_kind` meets its contract. Assumes nothing.
use mathlib.Core.Path.{◌∙◌}
use borrow.Author.Tests.{eq-eqb, lt-leb}
use Rattle.leaf_entries.proofs.Judged.{kind-beyond, kind-link, kind-cell}
use Rattle.leaf_entries.proofs.inside.is_of_kind.Goals as goal

pub returns-then-e-eq10 : goal.returns-then-e-eq10
returns-then-e-eq10 c =
    eq-eqb c.args.e.class 10 c.if-e-eq10.true ∙ kind-link c.args.cells.now c.args.e c.if-e-le10.true c.if-e-eq10.true

pub returns-else-e-eq10 : goal.returns-else-e-eq10
returns-else-e-eq10 c = kind-cell c.args.cells.now c.args.e c.if-e-le10.true c.if-e-eq10.false c.is_cell.ensures

pub returns-else-e-le10 : goal.returns-else-e-le10
returns-else-e-le10 c = lt-leb c.args.e.class 10 c.if-e-le10.false ∙ kind-beyond c.args.cells.now c.args.e c.if-e-le10.false
