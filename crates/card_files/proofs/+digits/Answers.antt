-- `digits` meets its contract: a digit behind those before it.
use Rattle.std.proofs.Common.{arith, rules}
use Rattle.card_files.proofs.Names.{digits_more, digits_none, digits_room}
use Rattle.card_files.proofs.+digits.Goals as goal

pub returns-then-count-eq0 : goal.returns-then-count-eq0
returns-then-count-eq0 t c = digits_none c.args.name.now c.args.at c.args.count c.args.n c.if-count-eq0.true

pub append_byte-requires : goal.append_byte-requires
append_byte-requires t c = search (rules, digits_room)

pub returns : goal.returns
returns t c =
    let a = c.args in
    let d = c.digits-next in
    let b = c.append_byte in
    digits_more a.name.now d.new.name b.new.out a.at a.count a.n d.result b.result (omega arith) (omega arith) d.ensures b.ensures
