-- `inside::total` meets its contract: the sum, and the bytes of the entries that are left, are all bytes. Assumes nothing.
use Prim.Native.Nat.{◌-◌}
use borrow.Author.Rules.{rules}
use Rattle.card_writer.proofs.Saves.{total_first, total-next, total-last}
use Rattle.card_writer.proofs.inside.total.Goals as goal

pub loop-i-init : goal.loop-i-init
loop-i-init c = (search rules, search rules, search total_first)

pub loop-i-preserved : goal.loop-i-preserved
loop-i-preserved c = (search rules, search rules, search total-next)

pub returns : goal.returns
returns c = (search total-last, search rules)
