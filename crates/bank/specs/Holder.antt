-- Whatever holds a bank: a slot word of some width, or the bytes of a wide bank. A holder says how it is judged and how a bank lies in it;
-- what its calls answer, and what one call of a history does to it, is said here once for all of them.
use Rattle.std.specs.Prelude.{ℕ, Bool, true, false, List, [], ◌∷◌, ◌++◌, take, drop, leb, eqb}
use Rattle.refusal.specs.Answer.{Answer, Rule, ◌unless◌, answered}
use Rattle.bank.specs.Bank.{Bank, sorted}
use Rattle.bank.specs.Calls.{Change, Question, change_rules, after, told_beside, question_rules, told}
use Rattle.bank.specs.History.{Done, released_by, opposites_of}

-- How a bank is held: refusal 1 is given unless the width is good, refusal 2 unless what is held is valid; the bank that is held, and
-- what holds a bank; what is held as values of an answer, how many they are, and how it is read off them.
pub record Holder (Held : Type 0) : Type 0 where
  pub good_width : Bool
  pub valid : Held → Bool
  pub bank_of : Held → Bank
  pub held_of : Bank → Held
  pub values : Held → List ℕ
  pub places : ℕ
  pub read : List ℕ → Held

-- these where the call was accepted, else none
abbrev pub if_accepted : {A : Type 0} → Bool → List A → List A
if_accepted true them = them
if_accepted false them = []

-- of what is told beside a bank, what is handed out: the first, which is the slot; how many rest is only told
abbrev pub handed_of : List ℕ → List ℕ
handed_of told = take 1 told

module _ {Held : Type 0} (h : Holder Held) where
  -- what every call needs, and then what this one needs, by rising number
  abbrev pub held_rules : Held → List Rule → List Rule
  held_rules held rules = (1 unless h.good_width) ∷ (2 unless h.valid held) ∷ rules

  -- a call that hands back what holds the bank: the new one and what is told beside it; refused, what was given
  unfoldable pub changed_in : Held → Change → Answer
  changed_in held c =
      answered (held_rules held (change_rules c (h.bank_of held)))
      (h.values (h.held_of (after c (h.bank_of held))) ++ told_beside c (h.bank_of held))
      (h.values held)

  -- a call that tells a number of the bank; refused, what was given
  unfoldable pub asked_in : Held → Question → Answer
  asked_in held q =
      answered (held_rules held (question_rules q (h.bank_of held))) (told q (h.bank_of held) ∷ []) (h.values held)

  -- What holds the sorted bank of width w with n slots taken: 1 for the width, 4 for an n above it. Refused, there is no bank to hand
  -- back, and something else stands in its place.
  unfoldable pub made_sorted_in : ℕ → ℕ → List ℕ → Answer
  made_sorted_in w n missing =
      answered ((1 unless h.good_width) ∷ (4 unless leb n w) ∷ []) (h.values (h.held_of (sorted w n))) missing

  -- what holds the empty bank of width w, which is the sorted one with no slot taken: 1 alone
  unfoldable pub made_empty_in : ℕ → List ℕ → Answer
  made_empty_in w missing = answered ((1 unless h.good_width) ∷ []) (h.values (h.held_of (sorted w 0))) missing

  -- One call of a history, by its answer: what is held now is told first, accepted or refused; of what is told behind it the first, the
  -- slot, is handed out; an accepted removal releases its slot, and an accepted call has its opposite.
  unfoldable pub held_does : Change → Held → Done Held
  held_does c held =
      let a = changed_in held c in
      record {
        now = h.read a.values;
        handed = handed_of (drop h.places a.values);
        released = if_accepted (eqb a.number 0) (released_by c (h.bank_of held));
        opposites = if_accepted (eqb a.number 0) (opposites_of c (h.bank_of held));
      }
