-- `shape_cells::inside::is_under` meets its contract. Assumes nothing.
use Rattle.shape_cells.proofs.Cells.{unders, under_next}
use Rattle.shape_cells.proofs.inside.is_under.Goals as goal

pub returns-then-links-eq0 : goal.returns-then-links-eq0
returns-then-links-eq0 c = search unders

pub returns-then-key-links : goal.returns-then-key-links
returns-then-key-links c = search unders

pub returns-then-eight-above : goal.returns-then-eight-above
returns-then-eight-above c = search unders

pub loop-i-preserved : goal.loop-i-preserved
loop-i-preserved c =
    under_next _ _ _ c.requires.0 c.loop-i.invariant c.loop-i-test.true c.eight.ensures c.if-eight-above.false c.if-key-links.false

pub returns : goal.returns
returns c = search unders
