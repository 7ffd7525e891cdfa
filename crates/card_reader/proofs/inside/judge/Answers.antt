-- `inside::judge` meets its contract. Assumes nothing.
use mathlib.Core.Path.{refl}
use borrow.Author.Rules.{rules}
use Rattle.card_reader.proofs.Ends.{first_fits, judge-done}
use Rattle.card_reader.proofs.inside.judge.Goals as goal

pub take_blocks-t-requires : goal.take_blocks-t-requires
take_blocks-t-requires c = (search rules, refl, refl, search first_fits)

pub returns : goal.returns
returns c = search judge-done
