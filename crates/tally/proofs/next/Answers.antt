-- What is told of an input that ends within a line.
use Rattle.std.proofs.Common.{◌<◌, length, arith}
use Rattle.tally.proofs.Lines.{part_left}
use Rattle.tally.proofs.next.Goals as goal

pub returns-in_ok-writeln-clause-told : goal.returns-in_ok-writeln-clause-told
returns-in_ok-writeln-clause-told g c _ =
    let part : c.in_ok-n.n < length c.filled.new.text = omega (arith, c.in_ok-n.ensures.bound) in
    part_left _ _ _ _ c.in_ok-n.n c.filled.new.text part c.if-n-ne0.true c.in_ok-n.ensures.bytes (c.in_ok-n.ensures.end part)
    c.in_ok-writeln.ensures.bytes
