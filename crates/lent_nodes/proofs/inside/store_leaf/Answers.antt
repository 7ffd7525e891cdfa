-- `inside::store_leaf` meets its contract. Assumes nothing.
use borrow.Author.Rules.{rules}
use Rattle.lent_nodes.specs.Layout.{WholeLeaf}
use Rattle.lent_nodes.proofs.Nodes.{leaf-written}
use Rattle.lent_nodes.proofs.inside.store_leaf.Goals as goal

pub returns : goal.returns
returns c =
    let w : WholeLeaf c.args.leaf =
    record { ikeys-15 = search rules; classes-15 = search rules; refs-15 = search rules } in
    leaf-written _ _ _ w c.requires c.put1.ensures c.put1-2.ensures
    c.put_words.ensures c.put_words-2.ensures
    c.put_words-3.ensures
