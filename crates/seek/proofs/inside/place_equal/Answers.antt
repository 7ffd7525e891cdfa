-- `seek::inside::place_equal` meets its contract. Assumes nothing.
use Prim.Native.Nat.{◌-◌}
use borrow.Author.Count.{below_none}
use borrow.Author.Rules.{rules}
use Rattle.seek.proofs.Down.{downs}
use Rattle.seek.proofs.inside.place_equal.Goals as goal

pub word_of-word-requires : goal.word_of-word-requires
word_of-word-requires c = search downs

pub size_of-size-requires : goal.size_of-size-requires
size_of-size-requires c = search downs

pub loop-i-init : goal.loop-i-init
loop-i-init c = (search rules, below_none _)

pub slot_of-slot-requires : goal.slot_of-slot-requires
slot_of-slot-requires c = search downs

pub entry_of-e-requires : goal.entry_of-e-requires
entry_of-e-requires c = search downs

pub is_same-requires : goal.is_same-requires
is_same-requires c = search downs

pub returns-then-is_same : goal.returns-then-is_same
returns-then-is_same c = search downs

pub overflow_add-i : goal.overflow_add-i
overflow_add-i c = search downs

pub loop-i-smaller : goal.loop-i-smaller
loop-i-smaller c = search downs

pub loop-i-preserved : goal.loop-i-preserved
loop-i-preserved c = (search rules, search downs)

pub returns : goal.returns
returns c = search downs
