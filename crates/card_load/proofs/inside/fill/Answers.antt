-- `inside::fill` meets its contract. Assumes nothing.
use mathlib.Core.Path.{refl}
use Rattle.card_filing.proofs.Enters.{right_kept}
use Rattle.card_reader.proofs.Ends.{first_fits}
use Rattle.card_load.proofs.Fills.{fill_done}
use borrow.Author.Rules.{rules}
use Rattle.card_load.proofs.inside.fill.Goals as goal

pub enter_blocks-t-requires : goal.enter_blocks-t-requires
enter_blocks-t-requires c = (search (rules, right_kept), search first_fits, refl, refl, search rules)

pub returns : goal.returns
returns c = search fill_done
