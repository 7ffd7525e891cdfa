-- What each answer says, by document 01's numbers.
use Rattle.std.specs.Prelude.{ℕ, [], ◌∷◌, Result, Ok, Err}
use Rattle.refusal.specs.declared.Refusal.{Refusal}
use Rattle.refusal.specs.Answer.{Answer, accepted, refused}
use Rattle.slot_answers.specs.declared.Refused.{Refused}
use Rattle.slot_answers.specs.declared.HandedOut.{HandedOut}

-- a word that was changed: 0 and the new word, or the refusal's number and the word as given
abbrev pub said_changed : Result ℕ Refused → Answer
said_changed (Ok word) = accepted (word ∷ [])
said_changed (Err r) = refused r.why (r.word ∷ [])

-- an insertion: 0, the new word, the slot handed out and how many rest, or the refusal's number and the word as given
abbrev pub said_inserted : Result HandedOut Refused → Answer
said_inserted (Ok out) = accepted (out.word ∷ out.slot ∷ out.resting ∷ [])
said_inserted (Err r) = refused r.why (r.word ∷ [])

-- a question: 0 and the number told, or the refusal's number and the word as given
abbrev pub said_told : Result ℕ Refused → Answer
said_told (Ok number) = accepted (number ∷ [])
said_told (Err r) = refused r.why (r.word ∷ [])

-- a word that was made: 0 and the word, or the refusal's number alone
abbrev pub said_made : Result ℕ Refusal → Answer
said_made (Ok word) = accepted (word ∷ [])
said_made (Err why) = refused why []
