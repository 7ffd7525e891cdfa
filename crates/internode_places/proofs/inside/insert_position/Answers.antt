-- `inside::insert_position` meets its contract. Assumes nothing.
use mathlib.Core.Path.{◌≡◌, ◌∙◌}
use borrow.Author.Rules.{rules}
use borrow.Author.Tests.{tests}
use lib.Dec.{leb}
use lib.ListN.{length}
use Rattle.std.proofs.lemmas.Iterator.{YieldsList-from_slice}
use Rattle.std.proofs.lemmas.Iterator.Search.{position_from_yields_List}
use Rattle.std.specs.List.{position}
use Rattle.internode_places.specs.Node.{keys_of}
use Rattle.internode_places.proofs.Judgement.{found-first}
use Rattle.internode_places.proofs.inside.insert_position.Goals as goal

pub returns : goal.returns
returns c =
    let a = c.args in
    let k : length a.node.ikeys ≡ 15 = search rules in
    let e : c.position.result ≡ position (λ k. leb a.target k) (keys_of a.node) =
    position_from_yields_List (λ k. leb a.target k) _ _ c.position.result c.position.ensures.ran (YieldsList-from_slice (keys_of a.node) cc)
    (λ x b q h. search (rules, tests)) in
    c.unwrap_or.ensures ∙ found-first a.node k (λ k. leb a.target k) c.requires e
