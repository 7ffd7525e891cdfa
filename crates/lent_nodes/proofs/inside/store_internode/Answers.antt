-- `inside::store_internode` meets its contract. Assumes nothing.
use borrow.Author.Rules.{rules}
use Rattle.lent_nodes.specs.Layout.{WholeInternode}
use Rattle.lent_nodes.proofs.Nodes.{internode-written}
use Rattle.lent_nodes.proofs.inside.store_internode.Goals as goal

pub returns : goal.returns
returns c =
    let w : WholeInternode c.args.x =
    record { ikeys-15 = search rules; children-16 = search rules } in
    internode-written _ _ _ w c.requires c.put1.ensures c.put1-2.ensures
    c.put_words.ensures c.put_words-2.ensures
    c.zero_words.ensures
