-- `inside::count_zeros` meets its contract: those found are the free ones among the numbers passed. Assumes nothing.
use Prim.Native.Nat.{◌<◌}
use native.Mathlib.Omega.{arith}
use borrow.Author.Rules.{rules}
use lib.ListN.{length}
use Rattle.lent_nodes.specs.Free.{every}
use Rattle.lent_nodes.proofs.Frees.{count-one, count_none, in_words, all-counted, counted_none}
use Rattle.lent_nodes.proofs.inside.count_zeros.Goals as goal
use Rattle.lent_nodes.proofs.inside.count_zeros.Goals.{then-words-start-eq0, else-words-start-eq0}

pub loop-i-init : goal.loop-i-init
loop-i-init c = (omega arith, counted_none _ _)

pub overflow_mul-i : goal.overflow_mul-i
overflow_mul-i c =
    let h : every c.args.start c.args.step c.loop-i.i < length c.args.words.now = search in_words in omega arith

pub overflow_add-start : goal.overflow_add-start
overflow_add-start c =
    let h : every c.args.start c.args.step c.loop-i.i < length c.args.words.now = search in_words in omega arith

pub offset_bounds-words-start : goal.offset_bounds-words-start
offset_bounds-words-start c =
    let h : every c.args.start c.args.step c.loop-i.i < length c.args.words.now = search in_words in omega arith

pub bounds-words-start : goal.bounds-words-start
bounds-words-start c = search (rules, in_words)

pub loop-i-preserved : goal.loop-i-preserved
loop-i-preserved c =
    elim c.if-words-start-eq0.branch [
      | then-words-start-eq0 w ↦ (search rules, search (count-one, w.found-is))
      | else-words-start-eq0 w ↦ (search rules, search (count_none, w.found-is))
    ]

pub returns : goal.returns
returns c = search all-counted
