-- `inside::byte_of` meets its contract. Assumes nothing.
use Prim.Native.Nat.{◌-◌}
use borrow.Author.Rules.{rules}
use Rattle.card_writer.proofs.Digits.{digit-first, digit-next, digit-last}
use Rattle.card_writer.proofs.inside.byte_of.Goals as goal

pub loop-j-init : goal.loop-j-init
loop-j-init c = (search rules, search digit-first)

pub loop-j-preserved : goal.loop-j-preserved
loop-j-preserved c = (search rules, search digit-next)

pub returns : goal.returns
returns c = search digit-last
