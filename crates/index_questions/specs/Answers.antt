-- What each answer to a question says, by document 01's numbers.
use Rattle.std.specs.Prelude.{ℕ, ◌-◌, List, [], ◌∷◌, Result, Ok, Err}
use Rattle.refusal.specs.Answer.{Answer, accepted, refused}
use Rattle.refusal.specs.declared.Refusal.{Refusal}
use Rattle.arena.specs.Layout.{mark_at, frame_at}
use Rattle.index_questions.specs.declared.Listed.{Listed}

-- a find: 0 and the frame number, or the refusal's number
abbrev pub said_found : Result ℕ Refusal → Answer
said_found (Ok frame) = accepted (frame ∷ [])
said_found (Err why) = refused why []

-- the k-th entry: 0, its cell, the length of its key and its frame number, or the refusal's number
abbrev pub said_listed : Result Listed Refusal → Answer
said_listed (Ok entry) = accepted (entry.cell ∷ entry.length ∷ entry.frame ∷ [])
said_listed (Err why) = refused why []

-- what k-th tells of a cell: its number, the length of its key and its frame number
abbrev pub listed_at : List ℕ → ℕ → Listed
listed_at cells cell = record { cell = cell; length = mark_at cells cell - 1; frame = frame_at cells cell }
