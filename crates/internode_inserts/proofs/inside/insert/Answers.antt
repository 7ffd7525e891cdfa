-- `inside::insert` meets its contract. Assumes nothing.
use mathlib.Core.Path.{◌≡◌}
use Prim.Native.Nat.{◌+◌}
use native.Mathlib.Omega.{arith}
use borrow.Author.Rules.{rules}
use lib.ListN.{length}
use Rattle.internode_inserts.proofs.Moves.{moved-put}
use Rattle.internode_inserts.proofs.inside.insert.Goals as goal

pub returns : goal.returns
returns c =
    let a = c.args in
    let k : length a.node.ikeys ≡ 15 = search rules in
    let h : length a.node.children ≡ 16 = search rules in
    rw (
      c.copy_within.ensures.after,
      c.copy_within-2.ensures.after,
      moved-put a.node.n a.node.ikeys (omega arith) a.p a.ikey (a.p + 1) (omega arith) (omega arith),
      moved-put (a.node.n + 1) a.node.children (omega arith) (a.p + 1) a.child (a.p + 2) (omega arith) (omega arith),
    )
