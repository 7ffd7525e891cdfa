-- `inside::answer` meets its contract: each word of the cells is below 2^64, so there is room for any answer; and what is printed stands
-- within the lent bytes.
use Rattle.std.proofs.Common.{rules}
use Rattle.arena.specs.Memory.{memory}
use Rattle.lines.proofs.Fits.{roomy, answer-fits, answer-count}
use Rattle.each_line.proofs.Written.{front-printed, ok_written}
use Rattle.each_line.proofs.inside.answer.Goals as goal

pub answer-n-requires : goal.answer-n-requires
answer-n-requires g c =
    let a = c.args in
    roomy (memory a.nodes.now a.cells.now a.bytes.now) (λ i. search rules) c.requires

pub slice_bounds-write_all-end : goal.slice_bounds-write_all-end
slice_bounds-write_all-end g c = answer-fits c.answer-n.ensures c.answer-n.auto.out

pub slice_bounds-write_all-end-2 : goal.slice_bounds-write_all-end-2
slice_bounds-write_all-end-2 g c = answer-count c.answer-n.ensures c.answer-n.auto.out

pub returns-clause-written : goal.returns-clause-written
returns-clause-written g c e =
    ok_written c.write_all.result _ _ _ _ c.is_ok.result c.is_ok.ensures.value c.write_all.ensures.bytes
    (front-printed c.answer-n.ensures) e
