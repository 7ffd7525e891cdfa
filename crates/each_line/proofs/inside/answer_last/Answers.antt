-- `inside::answer_last` meets its contract.
use Rattle.std.proofs.Common.{rules}
use Rattle.arena.specs.Memory.{memory}
use Rattle.each_line.proofs.Written.{last_empty, last_written}
use Rattle.each_line.proofs.Turns.{last_none, last_one}
use Rattle.each_line.proofs.inside.answer_last.Goals as goal

pub returns-then-kept-gt0-clause-leaves : goal.returns-then-kept-gt0-clause-leaves
returns-then-kept-gt0-clause-leaves g c = search (rules, last_one)

pub returns-clause-leaves : goal.returns-clause-leaves
returns-clause-leaves g c = search (rules, last_none)

pub returns-then-kept-gt0-clause-written : goal.returns-then-kept-gt0-clause-written
returns-then-kept-gt0-clause-written g c t =
    let a = c.args in
    last_written (memory a.nodes.now a.cells.now a.bytes.now) a.line.now a.kept _ _ c.if-kept-gt0.true c.requires.0
    (c.answer.ensures.written t)

pub returns-clause-written : goal.returns-clause-written
returns-clause-written g c _ =
    let a = c.args in
    last_empty (memory a.nodes.now a.cells.now a.bytes.now) a.line.now a.kept (g.W.Write.contents a.to.now) c.if-kept-gt0.false
