-- What each answer of a call on a wide bank says, by document 01's numbers.
use Rattle.std.specs.Prelude.{ℕ, List, [], ◌∷◌, ◌++◌, Result, Ok, Err}
use Rattle.refusal.specs.declared.Refusal.{Refusal}
use Rattle.refusal.specs.Answer.{Answer, accepted, refused}
use Rattle.wide_answers.specs.declared.Refused.{Refused}
use Rattle.wide_answers.specs.declared.HandedOut.{HandedOut}

-- a bank that was changed or made: 0 and the new bank, or the refusal's number and the bank as given
abbrev pub said_changed : Result (List ℕ) Refused → Answer
said_changed (Ok bank) = accepted bank
said_changed (Err r) = refused r.why r.bank

-- an insertion: 0, the new bank, the slot handed out and how many rest, or the refusal's number and the bank as given
abbrev pub said_inserted : Result HandedOut Refused → Answer
said_inserted (Ok out) = accepted (out.bank ++ out.slot ∷ out.resting ∷ [])
said_inserted (Err r) = refused r.why r.bank

-- a question about a bank: 0 and the number told, or the refusal's number and the bank as given, which the caller still has
abbrev pub said_told : List ℕ → Result ℕ Refusal → Answer
said_told bank (Ok number) = accepted (number ∷ [])
said_told bank (Err why) = refused why bank
