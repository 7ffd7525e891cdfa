-- `inside::is_good` meets its contract. Assumes nothing.
use mathlib.Core.Path.{◌≡◌}
use borrow.Author.Rules.{rules}
use borrow.Author.Tests.{lt-leb, tests}
use lib.Dec.{ltb}
use lib.ListN.{length}
use Rattle.std.proofs.lemmas.List.Sorted.{answers_always}
use Rattle.internode_places.specs.Node.{good}
use Rattle.internode_places.proofs.Judgement.{judged}
use Rattle.internode_places.proofs.inside.is_good.Goals as goal

pub returns-then-few : goal.returns-then-few
returns-then-few c =
    let k : length c.args.node.ikeys ≡ 15 = search rules in
    judged c.args.node k c.if-few.true (c.is_sorted_by.ensures.cases (λ k m. ltb k m) (answers_always _ _ _ (λ f a r h k. search (rules, tests))))

pub returns-else-few : goal.returns-else-few
unfolding good
returns-else-few c = rw (lt-leb c.args.node.n 15 c.if-few.false)
