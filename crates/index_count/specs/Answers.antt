-- What the answer of count says, by document 01's numbers.
use Rattle.std.specs.Prelude.{ℕ, [], ◌∷◌, Result, Ok, Err}
use Rattle.refusal.specs.Answer.{Answer, accepted, refused}
use Rattle.refusal.specs.declared.Refusal.{Refusal}

-- a count: 0 and the number of entries, or the refusal's number
abbrev pub said_counted : Result ℕ Refusal → Answer
said_counted (Ok n) = accepted (n ∷ [])
said_counted (Err why) = refused why []
