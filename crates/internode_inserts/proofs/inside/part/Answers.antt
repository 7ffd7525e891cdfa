-- `inside::part` meets its contract. Assumes nothing.
use mathlib.Core.Path.{◌≡◌}
use lib.ListN.{length}
use Rattle.internode_inserts.proofs.Splits.{part-copied}
use borrow.Author.Rules.{rules}
use Rattle.internode_inserts.proofs.inside.part.Goals as goal

pub returns : goal.returns
returns c =
    let a = c.args in
    let k : length a.node.ikeys ≡ 15 = search rules in
    let h : length a.node.children ≡ 16 = search rules in
    let e = c.shift_from.ensures in
    (rw e, rw e (part-copied a.node a.from a.count k h (search rules)))
