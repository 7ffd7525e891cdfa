-- `inside::keeps_order` meets its contract. Assumes nothing.
use mathlib.Core.Path.{◌≡◌, ◌∙◌}
use native.Mathlib.Omega.{arith}
use borrow.Author.Rules.{rules}
use borrow.Author.Tests.{eq-eqb}
use lib.ListN.{length}
use Rattle.internode_places.proofs.Judgement.{good-n, fits-not-high, fits-first, fits-left}
use Rattle.internode_places.proofs.inside.keeps_order.Goals as goal
use Rattle.internode_places.proofs.inside.keeps_order.Goals.{else-p-node-via-then-p-node+else-node-p, else-p-node-via-else-p-node}

pub offset_bounds-node-p : goal.offset_bounds-node-p
offset_bounds-node-p c = let h = good-n c.args.node c.requires.0 in search rules

pub bounds-node-p : goal.bounds-node-p
bounds-node-p c = let h = good-n c.args.node c.requires.0 in search rules

pub returns-then-node-p : goal.returns-then-node-p
returns-then-node-p c = search (rules, fits-not-high)

pub returns-then-p-eq0 : goal.returns-then-p-eq0
returns-then-p-eq0 c =
    let k : length c.args.node.ikeys ≡ 15 = search rules in
    eq-eqb c.args.p 0 c.if-p-eq0.true
    ∙ fits-first c.args.node k c.requires.0 c.args.ikey c.requires.1
    (elim c.else-p-node.branch [
      | else-p-node-via-then-p-node+else-node-p w ↦ λ h. w.if-node-p.false
      | else-p-node-via-else-p-node w ↦ λ h. absurd (omega arith)
    ])
    c.if-p-eq0.true

pub offset_bounds-node-p-else-p-eq0 : goal.offset_bounds-node-p-else-p-eq0
offset_bounds-node-p-else-p-eq0 c = let h = good-n c.args.node c.requires.0 in search rules

pub bounds-node-p-else-p-eq0 : goal.bounds-node-p-else-p-eq0
bounds-node-p-else-p-eq0 c = let h = good-n c.args.node c.requires.0 in search rules

pub returns-else-p-eq0 : goal.returns-else-p-eq0
returns-else-p-eq0 c =
    let k : length c.args.node.ikeys ≡ 15 = search rules in
    fits-left c.args.node k c.requires.0 c.args.ikey c.requires.1
    (elim c.else-p-node.branch [
      | else-p-node-via-then-p-node+else-node-p w ↦ λ h. w.if-node-p.false
      | else-p-node-via-else-p-node w ↦ λ h. absurd (omega arith)
    ])
    c.if-p-eq0.false
