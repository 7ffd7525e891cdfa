-- `replay_slots::asked::ask` meets its contract: each code asks for the answer at its place in the table.
use Rattle.std.proofs.Common.{arith}
use Rattle.replay_slots.specs.Recorded.{called}
use Rattle.replay_slots.proofs.Says.{asks, asks_nothing}
use Rattle.replay_slots.proofs.asked.ask.Goals as goal

pub returns-in-0 : goal.returns-in-0
unfolding called
returns-in-0 c = search asks

pub returns-in-1 : goal.returns-in-1
unfolding called
returns-in-1 c = search asks

pub returns-in-2 : goal.returns-in-2
unfolding called
returns-in-2 c = search asks

pub returns-in-3 : goal.returns-in-3
unfolding called
returns-in-3 c = search asks

pub returns-in-4 : goal.returns-in-4
unfolding called
returns-in-4 c = search asks

pub returns-in-5 : goal.returns-in-5
unfolding called
returns-in-5 c = search asks

pub returns-in-6 : goal.returns-in-6
unfolding called
returns-in-6 c = search asks

pub returns-in-7 : goal.returns-in-7
unfolding called
returns-in-7 c = search asks

pub returns-in-8 : goal.returns-in-8
unfolding called
returns-in-8 c = search asks

pub returns-in-9 : goal.returns-in-9
unfolding called
returns-in-9 c = search asks

pub returns-in-10 : goal.returns-in-10
unfolding called
returns-in-10 c = search asks

pub returns-in-11 : goal.returns-in-11
unfolding called
returns-in-11 c = search asks

pub returns-in-12 : goal.returns-in-12
unfolding called
returns-in-12 c = search asks

pub returns-in-13 : goal.returns-in-13
unfolding called
returns-in-13 c = search asks

pub returns-in-14 : goal.returns-in-14
unfolding called
returns-in-14 c = search asks

pub returns-in-15 : goal.returns-in-15
unfolding called
returns-in-15 c = search asks

pub returns-in_default : goal.returns-in_default
returns-in_default c =
    let a = c.args in
    asks_nothing a.call a.width a.word a.a a.b (omega arith) c.one.ensures
