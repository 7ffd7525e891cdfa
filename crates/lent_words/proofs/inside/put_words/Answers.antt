-- `inside::put_words` meets its contract. Assumes nothing.
use mathlib.Core.Path.{refl, ◌∙◌, ap}
use Rattle.lent_words.specs.Parts.{put_part}
use Rattle.lent_words.proofs.Words.{part-all}
use Rattle.lent_words.proofs.inside.put_words.Goals as goal

pub returns : goal.returns
returns c = c.copy_words.ensures ∙ ap (put_part _ _) (part-all _ _ refl)
