-- `inside::child_place` meets its contract. Assumes nothing.
use mathlib.Core.Path.{◌≡◌, sym, ◌∙◌}
use native.Mathlib.Omega.{arith}
use borrow.Author.Rules.{rules}
use borrow.Author.Tests.{tests}
use lib.Dec.{ltb}
use lib.ListN.{length}
use Rattle.std.proofs.lemmas.Iterator.{YieldsList-from_slice}
use Rattle.std.proofs.lemmas.Iterator.Search.{position_from_yields_List}
use Rattle.std.specs.List.{position}
use Rattle.internode_places.specs.Node.{keys_of, child_place}
use Rattle.internode_places.proofs.Judgement.{good-n, found-first}
use Rattle.internode_places.proofs.Laws.{child-is-first, child-most}
use Rattle.internode_places.proofs.inside.child_place.Goals as goal

pub shared_ref_as_front-keys : goal.shared_ref_as_front-keys
shared_ref_as_front-keys c = good-n c.args.node c.requires

pub returns : goal.returns
returns c =
    let a = c.args in
    let h = good-n a.node c.requires in
    let k : length a.node.ikeys ≡ 15 = search rules in
    let e : c.position.result ≡ position (λ k. ltb a.target k) (keys_of a.node) =
    position_from_yields_List (λ k. ltb a.target k) _ _ c.position.result c.position.ensures.ran (YieldsList-from_slice (keys_of a.node) cc)
    (λ x b q h. search (rules, tests)) in
    let p : c.unwrap_or.result ≡ child_place a.node a.target
    = c.unwrap_or.ensures ∙ found-first a.node k (λ k. ltb a.target k) h e ∙ sym (child-is-first a.node a.target c.requires) in
    (p, omega (arith, child-most a.node a.target), omega (arith, child-most a.node a.target))
