-- `slots_sorted::inside::sorted` meets its contract. Assumes nothing.
use mathlib.Core.Path.{◌∙◌}
use Rattle.slots_sorted.proofs.Table.{sorted-entry}
use Rattle.slots_sorted.proofs.inside.sorted.Goals as goal

pub returns : goal.returns
returns c = c.word_at.ensures ∙ sorted-entry _ _ c.requires.0 c.requires.1 c.requires.2
