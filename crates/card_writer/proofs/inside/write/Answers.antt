-- `inside::write` meets its contract: after i blocks, the cursor stands where block i begins in the stream. Assumes nothing.
use Prim.Native.Nat.{◌-◌}
use mathlib.Core.Path.{refl}
use borrow.Author.Rules.{rules}
use Rattle.card_stream.proofs.Images.{image-all}
use Rattle.card_writer.proofs.Streams.{start-placed, rest-start, write-none, write-more, placed_on, rest-on}
use Rattle.card_writer.proofs.inside.write.Goals as goal

pub loop-i-init : goal.loop-i-init
loop-i-init c = (search rules, refl, search start-placed, rest-start _ _, write-none _ _)

pub loop-i-preserved : goal.loop-i-preserved
loop-i-preserved c = (search rules, search rules, search placed_on, search rest-on, search write-more)

pub returns : goal.returns
returns c = search image-all
