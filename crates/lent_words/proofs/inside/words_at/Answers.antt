-- `inside::words_at` meets its contract. Assumes nothing.
use mathlib.Core.Path.{◌∙◌, sym}
use lib.ListN.{length-replicate}
use Rattle.lent_words.proofs.Words.{part_length, put-over}
use Rattle.lent_words.proofs.inside.words_at.Goals as goal

pub returns : goal.returns
returns g c = c.copy_words.ensures ∙ put-over _ _ (part_length _ _ g.row.N c.requires ∙ sym (length-replicate g.row.N 0))
