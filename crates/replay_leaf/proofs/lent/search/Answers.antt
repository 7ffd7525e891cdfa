-- `replay_leaf::lent::search` meets its contract: with fifteen entries the search over lent ones is the search over entries by value.
use Rattle.std.proofs.Common.{◌≡◌, ◌∙◌, length, rules}
use Rattle.lent_leaf.proofs.Counted.{fifteen-said}
use Rattle.replay_leaf.proofs.lent.search.Goals as goal

pub returns : goal.returns
returns c =
    let a = c.args in
    let fifteen : length a.entries ≡ 15 = search rules in
    c.search.ensures ∙ fifteen-said a.word a.entries a.cells.now a.bytes.now a.key.now a.ikey a.shift_count a.suffix_start fifteen
