-- `inside::answer_part` meets its contract: a part is used up bit by bit, and each line that ends in it is carried out once.
use Rattle.std.proofs.Common.{refl, rules, take}
use Rattle.arena.specs.Memory.{memory}
use Rattle.each_line.specs.Parts.{lines_here}
use Rattle.each_line.proofs.Written.{none_printed}
use Rattle.each_line.proofs.Turns.{going-none, going-ended, going-open, part-whole, part-stopped, printed-ended}
use Rattle.each_line.proofs.inside.answer_part.Goals as goal

pub loop-from-init : goal.loop-from-init
loop-from-init g c =
    let a = c.args in
    let none = none_printed (memory a.nodes.now a.cells.now a.bytes.now)
    (lines_here (take a.kept a.line.now) a.part.now) (g.W.Write.contents a.to.now) in
    (search rules, refl, refl, refl, refl, refl, search going-none, none)

pub returns-then-not-answer-clause-part_done : goal.returns-then-not-answer-clause-part_done
returns-then-not-answer-clause-part_done g c = search part-stopped

pub loop-from-preserved-then-taken : goal.loop-from-preserved-then-taken
loop-from-preserved-then-taken g c =
    let l = c.loop-from in
    let taken = c.take_line-taken.ensures.value in
    let answer = c.answer.ensures in
    let printed = printed-ended c.args.part.now l.from l.answered l.line l.held l.invariant.6
    c.loop-from-test.true taken.0 taken.1 c.if-taken.true answer.leaves _ _ _ l.invariant.7 (answer.written c.if-not-answer.false) in
    (search rules, search rules, search rules, search rules, search rules, search rules, search going-ended, printed)

pub loop-from-preserved : goal.loop-from-preserved
loop-from-preserved g c =
    (search rules, search rules, search rules, search rules, search rules, search rules, search going-open, c.loop-from.invariant.7)

pub returns-clause-part_done : goal.returns-clause-part_done
returns-clause-part_done g c = search part-whole
