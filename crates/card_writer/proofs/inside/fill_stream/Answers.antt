-- `inside::fill_stream` meets its contract: after j bytes, the cursor gives what is left of the stream. Assumes nothing.
use Prim.Native.Nat.{◌-◌}
use mathlib.Core.Path.{refl}
use borrow.Author.Rules.{rules}
use Rattle.card_writer.proofs.Fills.{fill_none, fill_more, rest_more, placed-more, further-more, further-last, fill-last}
use Rattle.card_writer.proofs.inside.fill_stream.Goals as goal

pub loop-j-init : goal.loop-j-init
loop-j-init c = (search rules, search rules, search rules, refl, refl, search fill_none)

pub loop-j-preserved : goal.loop-j-preserved
loop-j-preserved c = (search rules, search rules, search placed-more, search rest_more, search further-more, search fill_more)

pub returns : goal.returns
returns c = (search fill-last, search further-last)
