-- `audit_seen::inside::cells_right` meets its contract. Assumes nothing.
use borrow.Author.Tests.{not-false}
use Rattle.audit_seen.proofs.Rests.{counts, cells-next}
use Rattle.audit_seen.proofs.inside.cells_right.Goals as goal

pub loop-k-init : goal.loop-k-init
loop-k-init c = search counts

pub overflow_mul-k : goal.overflow_mul-k
overflow_mul-k c = search counts

pub overflow_add-k : goal.overflow_add-k
overflow_add-k c = search counts

pub bounds-seen-k : goal.bounds-seen-k
bounds-seen-k c = search counts

pub overflow_add-many : goal.overflow_add-many
overflow_add-many c = search counts

pub loop-k-preserved-then-seen-k-eq1 : goal.loop-k-preserved-then-seen-k-eq1
loop-k-preserved-then-seen-k-eq1 c = search counts

pub cell_free-requires : goal.cell_free-requires
cell_free-requires c = search counts

pub returns-then-not-cell_free : goal.returns-then-not-cell_free
returns-then-not-cell_free c = search counts

pub loop-k-preserved : goal.loop-k-preserved
loop-k-preserved c = (
  cells-next _ _ _ _ c.if-seen-k-eq1.false c.cell_free.ensures c.loop-k.invariant.0 (not-false _ c.if-not-cell_free.false-raw),
  search counts,
  search counts,
)

pub returns : goal.returns
returns c = search counts
