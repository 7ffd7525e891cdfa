-- `inside::first_bad` meets its contract. Assumes nothing.
use Prim.Native.Nat.{◌-◌}
use borrow.Author.Rules.{rules}
use Rattle.card_reader.proofs.Payloads.{bad-first, bad-next, bad-found, bad-none}
use Rattle.card_reader.proofs.inside.first_bad.Goals as goal

pub loop-i-init : goal.loop-i-init
loop-i-init c = (search rules, search bad-first)

pub loop-i-preserved : goal.loop-i-preserved
loop-i-preserved c = (search rules, search bad-next)

pub returns-in-loop-i : goal.returns-in-loop-i
returns-in-loop-i c = search (bad-found, bad-none)

pub returns : goal.returns
returns c = search (bad-found, bad-none)
