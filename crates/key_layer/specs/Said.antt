-- The answers of the calls on keys, by document 01's numbers: 0 and the values, or a refusal's number and what is handed back.
use Rattle.std.specs.Prelude.{ℕ, Bool, List, [], ◌∷◌, Result, Ok, Err}
use Rattle.std.specs.declared.cmp.Ordering.{Ordering}
use Rattle.refusal.specs.declared.Refusal.{Refusal}
use Rattle.refusal.specs.Answer.{Answer, accepted, refused}
pub use Rattle.key_layer.specs.Keys.{truth}
use Rattle.key_layer.specs.declared.Layer.{Layer}
use Rattle.ikey.specs.Said.{place, order_of}
use Rattle.key_layer.specs.declared.Refused.{Refused}

-- a key's numbers, in the order in which every call takes them
abbrev pub numbers_of : Layer → List ℕ
numbers_of key = key.ikey ∷ key.shift_count ∷ key.suffix_start ∷ []

-- a new key: 0 and its numbers, or the refusal's number alone
abbrev pub said_made : Result Layer Refusal → Answer
said_made (Ok key) = accepted (numbers_of key)
said_made (Err why) = refused why []

-- a key that was moved: 0 and its new numbers, or the refusal's number and the numbers as given
abbrev pub said_moved : Result Layer Refused → Answer
said_moved (Ok key) = accepted (numbers_of key)
said_moved (Err r) = refused r.why (numbers_of r.layer)

-- a question about the ikey: 0 and the u64, or the refusal's number and the key's numbers as given
abbrev pub said_word : Result ℕ Refused → Answer
said_word (Ok n) = accepted (n ∷ [])
said_word (Err r) = refused r.why (numbers_of r.layer)

-- a question about a length or a count: 0 and the usize, or the refusal's number and the key's numbers as given
abbrev pub said_count : Result ℕ Refused → Answer
said_count (Ok n) = accepted (n ∷ [])
said_count (Err r) = refused r.why (numbers_of r.layer)

-- a question of yes or no: 0, and 1 for yes or 0 for no; or the refusal's number and the key's numbers as given
abbrev pub said_told : Result Bool Refused → Answer
said_told (Ok b) = accepted (truth b ∷ [])
said_told (Err r) = refused r.why (numbers_of r.layer)

-- a comparison: 0 and the order, or the refusal's number and the key's numbers as given
abbrev pub said_compared : Result Ordering Refused → Answer
said_compared (Ok o) = accepted (place (order_of o) ∷ [])
said_compared (Err r) = refused r.why (numbers_of r.layer)

-- a judgement: 0 where the key fits, or the refusal's number and the key's numbers as given
abbrev pub said_judged : Result (Unit {0}) Refused → Answer
said_judged (Ok fit) = accepted []
said_judged (Err r) = refused r.why (numbers_of r.layer)
