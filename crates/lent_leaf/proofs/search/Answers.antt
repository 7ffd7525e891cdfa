-- `lent_leaf::search` meets its contract: by the number of entries. Assumes nothing.
use mathlib.Core.Path.{◌≡◌, sym, ◌∙◌}
use native.Mathlib.Omega.{arith}
use lib.ListN.{length}
use Rattle.lent_leaf.proofs.Counted.{fifteen-said, other-said}
use Rattle.lent_leaf.proofs.search.Goals as goal

pub returns-then-entries-ne15 : goal.returns-then-entries-ne15
returns-then-entries-ne15 c =
    let a = c.args in
    c.unlent.ensures
    ∙ sym (other-said a.word a.entries.now a.cells.now a.bytes.now a.key.now a.ikey a.shift_count a.suffix_start c.if-entries-ne15.true)

pub returns : goal.returns
returns c =
    let a = c.args in
    let e : length a.entries.now ≡ 15 = omega arith in
    let said = fifteen-said a.word a.entries.now a.cells.now a.bytes.now a.key.now a.ikey a.shift_count a.suffix_start e in
    (rw c.fifteen.ensures at c.search.ensures) ∙ sym said
