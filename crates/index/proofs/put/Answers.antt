-- `index::put` meets its contract. Assumes nothing.
use borrow.Author.Tests.{not-true, not-false}
use borrow.Author.Rules.{rules}
use Rattle.index.proofs.Putting.{tree-lengths, put-long, put-unfit, put-known}
use Rattle.index.proofs.put.Goals as goal

pub returns-then-key-gt-LONGEST : goal.returns-then-key-gt-LONGEST
returns-then-key-gt-LONGEST c = search put-long

pub returns-then-not-is_tree : goal.returns-then-not-is_tree
returns-then-not-is_tree c =
    put-unfit _ _ _ _ _ c.if-key-gt-LONGEST.false c.is_tree.ensures
    (not-true _ c.if-not-is_tree.true-raw)

pub put_lent-requires : goal.put_lent-requires
put_lent-requires c =
    (tree-lengths _ _ _ c.is_tree.ensures (not-false _ c.if-not-is_tree.false-raw), search rules)

pub returns : goal.returns
returns c = search (not-false, put-known)
