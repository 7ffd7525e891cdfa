-- What each answer of saving says, by number.
use Rattle.std.specs.Prelude.{[], ◌∷◌}
use Rattle.refusal.specs.Answer.{Answer, accepted, refused, refused_telling}
use Rattle.card_save.specs.declared.Saved.{Saved}
use Rattle.card_save.specs.declared.Saved.TheVariants as saved-is

-- 0 and the number of blocks, or the number of a refusal
abbrev pub said_saved : Saved → Answer
said_saved (saved-is.Blocks n) = accepted (n ∷ [])
said_saved saved-is.Short = refused_telling 18 [] []
said_saved (saved-is.Refused why) = refused why []
