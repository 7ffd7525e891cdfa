-- `seek::inside::place_for` meets its contract. Assumes nothing.
use Prim.Native.Nat.{◌-◌}
use borrow.Author.Rules.{rules}
use Rattle.seek.proofs.Down.{downs}
use Rattle.seek.proofs.inside.place_for.Goals as goal

pub word_of-count-requires : goal.word_of-count-requires
word_of-count-requires c = search downs

pub loop-i-init : goal.loop-i-init
loop-i-init c = (search rules, search rules, search rules, search downs)

pub overflow_mul-at : goal.overflow_mul-at
overflow_mul-at c = search downs

pub overflow_add-at : goal.overflow_add-at
overflow_add-at c = search downs

pub overflow_add-at-in-loop-i : goal.overflow_add-at-in-loop-i
overflow_add-at-in-loop-i c = search downs

pub overflow_add-at-in-loop-i-2 : goal.overflow_add-at-in-loop-i-2
overflow_add-at-in-loop-i-2 c = search downs

pub returns-then-nodes-at-clause-value : goal.returns-then-nodes-at-clause-value
returns-then-nodes-at-clause-value c = search downs

pub returns-then-nodes-at-clause-upper_bound : goal.returns-then-nodes-at-clause-upper_bound
returns-then-nodes-at-clause-upper_bound c = (search rules, search rules)

pub offset_bounds-nodes-at : goal.offset_bounds-nodes-at
offset_bounds-nodes-at c = search downs

pub bounds-nodes-at : goal.bounds-nodes-at
bounds-nodes-at c = search downs

pub overflow_add-i : goal.overflow_add-i
overflow_add-i c = search downs

pub loop-i-smaller-then-ikey-nodes : goal.loop-i-smaller-then-ikey-nodes
loop-i-smaller-then-ikey-nodes c = search downs

pub loop-i-preserved-then-ikey-nodes : goal.loop-i-preserved-then-ikey-nodes
loop-i-preserved-then-ikey-nodes c = (search rules, search rules, search rules, search downs)

pub overflow_add-i-in-loop-i : goal.overflow_add-i-in-loop-i
overflow_add-i-in-loop-i c = search downs

pub loop-i-smaller : goal.loop-i-smaller
loop-i-smaller c = search downs

pub loop-i-preserved : goal.loop-i-preserved
loop-i-preserved c = (search rules, search rules, search rules, search downs)

pub returns-clause-value : goal.returns-clause-value
returns-clause-value c = search downs

pub returns-clause-upper_bound : goal.returns-clause-upper_bound
returns-clause-upper_bound c = (search rules, search rules)
