-- What the answer of a removal says, by document 01's numbers.
use Rattle.std.specs.Prelude.{[], Result, Ok, Err}
use Rattle.refusal.specs.Answer.{Answer, accepted, refused}
use Rattle.refusal.specs.declared.Refusal.{Refusal}

-- 0, or the number of a refusal
abbrev pub said_removed : Result (Unit {0}) Refusal → Answer
said_removed (Ok _) = accepted []
said_removed (Err why) = refused why []
