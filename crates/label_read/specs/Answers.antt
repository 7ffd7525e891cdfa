-- What each answer of a reader says, by number: 0 and the fields, or 19 and the edition byte.
use Rattle.std.specs.Prelude.{[], ◌∷◌, Result, Ok, Err}
use Rattle.refusal.specs.Answer.{Answer, accepted, refused_telling}
use Rattle.label_said.specs.Label.{fields}
use Rattle.label_said.specs.Read.{numbers_of}
use Rattle.label_read.specs.declared.Label.{Label}
use Rattle.label_read.specs.declared.Label.TheVariants.{First, Second}
use Rattle.label_read.specs.declared.FirstLabel.{FirstLabel}
use Rattle.label_read.specs.declared.Unknown.{Unknown}

-- a reader of both: the edition, then the fields
abbrev pub said_label : Result Label Unknown → Answer
said_label (Ok (First station burst frame)) = accepted (1 ∷ numbers_of (fields station burst frame))
said_label (Ok (Second station burst frame)) = accepted (2 ∷ numbers_of (fields station burst frame))
said_label (Err none) = refused_telling 19 (none.edition ∷ []) []

-- a reader of edition 1: the fields
abbrev pub said_first_label : Result FirstLabel Unknown → Answer
said_first_label (Ok label) = accepted (numbers_of (fields label.station label.burst label.frame))
said_first_label (Err none) = refused_telling 19 (none.edition ∷ []) []
