-- What each call on a wide bank answers.
use Rattle.std.specs.Prelude.{ℕ, List, replicate, Result, Ok, Err}
use Rattle.refusal.specs.declared.Refusal.{Refusal}
use Rattle.refusal.specs.Answer.{Answer, Rule}
use Rattle.bank.specs.Calls.{Change, Question}
use Rattle.bank.specs.Holder.{held_rules, changed_in, asked_in, made_sorted_in, made_empty_in}
use Rattle.bank.specs.Judged.{judged_in}
use Rattle.wide_bytes.specs.Wide.{wides}
use Rattle.wide_answers.specs.declared.Refused.{Refused}

-- what a judgement says, with the bank as given beside a refusal
abbrev pub with_bank : List ℕ → Result (Unit {0}) Refusal → Result (Unit {0}) Refused
with_bank bank (Ok done) = Ok done
with_bank bank (Err why) = Err (record { why = why; bank = bank })

-- the judgement of a bank, which hands it back where it is refused
abbrev pub judged_back : ℕ → List ℕ → Result (Unit {0}) Refused
judged_back w bytes = with_bank bytes (judged_in (wides w) bytes)

-- what every call on a wide bank needs, and then what this one needs, by rising number
abbrev pub wide_rules : ℕ → List ℕ → List Rule → List Rule
wide_rules w bytes rules = held_rules (wides w) bytes rules

-- a call that hands a bank back: the new bank and what it tells beside it; refused, the bank as given
abbrev pub changed : ℕ → List ℕ → Change → Answer
changed w bytes c = changed_in (wides w) bytes c

-- a call that tells a number of a bank; refused, the bank as given
abbrev pub asked : ℕ → List ℕ → Question → Answer
asked w bytes q = asked_in (wides w) bytes q

-- the sorted bank with n slots taken; refused, there is no bank to hand back, and 25 zeros stand there
abbrev pub made_sorted : ℕ → ℕ → Answer
made_sorted w n = made_sorted_in (wides w) w n (replicate 25 0)

-- the empty bank; refused, 25 zeros
abbrev pub made_empty : ℕ → Answer
made_empty w = made_empty_in (wides w) w (replicate 25 0)
