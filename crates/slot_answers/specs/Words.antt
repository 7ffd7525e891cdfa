-- What each call on a slot word answers.
use Rattle.std.specs.Prelude.{ℕ, false, List, [], ◌∷◌, Result, Ok, Err}
use Rattle.refusal.specs.declared.Refusal.{Refusal}
use Rattle.refusal.specs.Refusals.{number_of}
use Rattle.refusal.specs.Answer.{Answer, Rule, ◌unless◌, answered}
use Rattle.bank.specs.Calls.{Change, Question}
use Rattle.bank.specs.Holder.{held_rules, changed_in, asked_in, made_sorted_in, made_empty_in}
use Rattle.nibbles.specs.Words.{words, judged}
use Rattle.slot_answers.specs.declared.Refused.{Refused}

-- what a judgement says, with the word as given beside a refusal
abbrev pub with_word : ℕ → Result (Unit {0}) Refusal → Result (Unit {0}) Refused
with_word word (Ok done) = Ok done
with_word word (Err why) = Err (record { why = why; word = word })

-- the judgement of a word, which hands it back where it is refused
abbrev pub judged_back : ℕ → ℕ → Result (Unit {0}) Refused
judged_back w word = with_word word (judged w word)

-- what every call on a word needs, and then what this one needs, by rising number
abbrev pub word_rules : ℕ → ℕ → List Rule → List Rule
word_rules w word rules = held_rules (words w) word rules

-- a call that breaks a rule of its own: 1 or 2, where the width or the word is wrong, and else the number of that rule
abbrev pub refused_by : ℕ → ℕ → Refusal → Answer
refused_by w word own = answered (word_rules w word ((number_of own unless false) ∷ [])) [] (word ∷ [])

-- a call that hands a word back: the new word and what it tells beside it; refused, the word as given
abbrev pub changed : ℕ → ℕ → Change → Answer
changed w word c = changed_in (words w) word c

-- a call that tells a number of a word; refused, the word as given
abbrev pub asked : ℕ → ℕ → Question → Answer
asked w word q = asked_in (words w) word q

-- the sorted word with n slots taken; there is no word to hand back
abbrev pub made_sorted : ℕ → ℕ → Answer
made_sorted w n = made_sorted_in (words w) w n []

-- the empty word is the sorted one with no slot taken
abbrev pub made_empty : ℕ → Answer
made_empty w = made_empty_in (words w) w []
