-- `inside::pass_over` meets its contract: what the rest of the bytes makes of the present state is what all make of the first. Assumes
-- nothing.
use Prim.Native.Nat.{◌-◌}
use mathlib.Core.Path.{refl}
use borrow.Author.Rules.{rules}
use Rattle.card_stream.proofs.Folds.{further, at_last}
use Rattle.card_fields.proofs.Small.{next_fits}
use Rattle.card_fields.proofs.inside.pass_over.Goals as goal

pub loop-i-init : goal.loop-i-init
loop-i-init c = (search rules, search rules, search rules, refl)

pub loop-i-preserved : goal.loop-i-preserved
loop-i-preserved c = (search rules, search rules, search next_fits, search further)

pub returns : goal.returns
returns c = search at_last
