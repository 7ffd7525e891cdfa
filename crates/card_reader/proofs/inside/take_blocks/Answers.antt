-- `inside::take_blocks` meets its contract. Assumes nothing.
use Prim.Native.Nat.{◌-◌}
use borrow.Author.Rules.{rules}
use Rattle.card_fields.specs.Step.{step}
use Rattle.card_stream.proofs.Folds.{blocks-none, blocks_more, blocks_last}
use Rattle.card_reader.proofs.Payloads.{after-fits}
use Rattle.card_reader.proofs.inside.take_blocks.Goals as goal

pub loop-i-init : goal.loop-i-init
loop-i-init c = (search rules, search rules, search rules, search rules, search (blocks-none step))

pub loop-i-preserved : goal.loop-i-preserved
loop-i-preserved c = (search rules, search rules, search rules, search after-fits, search (blocks_more step))

pub returns : goal.returns
returns c = search (blocks_last step)
