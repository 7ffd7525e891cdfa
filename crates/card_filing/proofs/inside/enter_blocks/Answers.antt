-- `card_filing::inside::enter_blocks` meets its contract. Assumes nothing.
use Prim.Native.Nat.{◌-◌}
use borrow.Author.Rules.{rules}
use Rattle.card_stream.proofs.Folds.{blocks-none, blocks_more, blocks_last}
use Rattle.card_filing.specs.Filing.{step_putting}
use Rattle.card_filing.proofs.Enters.{right_kept, all_fit}
use Rattle.card_filing.proofs.inside.enter_blocks.Goals as goal

pub loop-i-init : goal.loop-i-init
loop-i-init c = (
  search rules,
  search rules,
  search rules,
  search rules,
  search rules,
  search rules,
  search rules,
  search (blocks-none step_putting),
)

pub enter_bytes-t-requires : goal.enter_bytes-t-requires
enter_bytes-t-requires c = (search (rules, right_kept), search rules, search rules, search rules)

pub loop-i-preserved : goal.loop-i-preserved
loop-i-preserved c = (
  search rules,
  search rules,
  search rules,
  search rules,
  search rules,
  search rules,
  search all_fit,
  search (blocks_more step_putting),
)

pub returns : goal.returns
returns c = search (blocks_last step_putting)
