-- `inside::lowest_zero` meets its contract: none of the numbers passed is free. Assumes nothing.
use Prim.Native.Nat.{◌<◌}
use native.Mathlib.Omega.{arith}
use borrow.Author.Rules.{rules}
use lib.ListN.{length}
use Rattle.lent_nodes.specs.Free.{every}
use Rattle.lent_nodes.proofs.Frees.{found-lowest, pass-one, in_words, none-lowest, passed_none}
use Rattle.lent_nodes.proofs.inside.lowest_zero.Goals as goal

pub loop-i-init : goal.loop-i-init
loop-i-init c = passed_none _ _

pub overflow_mul-i : goal.overflow_mul-i
overflow_mul-i c =
    let h : every c.args.start c.args.step c.loop-i.i < length c.args.words.now = search in_words in omega arith

pub overflow_add-start : goal.overflow_add-start
overflow_add-start c =
    let h : every c.args.start c.args.step c.loop-i.i < length c.args.words.now = search in_words in omega arith

pub offset_bounds-words-start : goal.offset_bounds-words-start
offset_bounds-words-start c =
    let h : every c.args.start c.args.step c.loop-i.i < length c.args.words.now = search in_words in omega arith

pub bounds-words-start : goal.bounds-words-start
bounds-words-start c = search (rules, in_words)

pub returns-then-words-start-eq0 : goal.returns-then-words-start-eq0
returns-then-words-start-eq0 c = search found-lowest

pub loop-i-preserved : goal.loop-i-preserved
loop-i-preserved c = search pass-one

pub returns : goal.returns
returns c = search none-lowest
