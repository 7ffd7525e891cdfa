-- The calls on a bank: what document 01's table asks of each, and what an accepted one does.
use Rattle.std.specs.Prelude.{ℕ, ◌+◌, ◌-◌, ◌&&◌, List, [], ◌∷◌, ltb, leb}
use Rattle.refusal.specs.Answer.{Rule, ◌unless◌}
use Rattle.bank.specs.Bank.{
  Bank,
  width,
  slot_at,
  place_in_use,
  inserted_from_back,
  inserted_first_free,
  removed,
  removed_to_back,
  rotated,
  exchanged,
  resized,
}

-- calls that hand a bank back, each with its positions, its size or its slot
pub data Change : Type 0 where
  from_value : Change
  set_size : ℕ → Change
  swap_free_slots : ℕ → ℕ → Change
  insert_from_back : ℕ → Change
  insert_first_free : ℕ → Change
  remove : ℕ → Change
  remove_to_back : ℕ → Change
  remove_slot : ℕ → Change
  exchange : ℕ → ℕ → Change
  rotate : ℕ → ℕ → Change

-- calls that tell a number and change nothing, with a position or an offset
pub data Question : Type 0 where
  size : Question
  get : ℕ → Question
  back : Question
  back_at_offset : ℕ → Question

-- refusals 4, 5 and 6: what each change needs
abbrev pub change_rules : Change → Bank → List Rule
change_rules from_value b = []
change_rules (set_size n) b = (4 unless leb n (width b)) ∷ []
change_rules (swap_free_slots i j) b =
    (4 unless leb b.size i && ltb i (width b) && leb b.size j && ltb j (width b)) ∷ []
change_rules (insert_from_back i) b = (4 unless leb i b.size) ∷ (5 unless ltb b.size (width b)) ∷ []
change_rules (insert_first_free i) b = (4 unless leb i b.size) ∷ (5 unless ltb b.size (width b)) ∷ []
change_rules (remove i) b = (4 unless ltb i b.size) ∷ []
change_rules (remove_to_back i) b = (4 unless ltb i b.size) ∷ []
change_rules (remove_slot s) b = (6 unless ltb (place_in_use s b) b.size) ∷ []
change_rules (exchange i j) b = (4 unless ltb i (width b) && ltb j (width b)) ∷ []
change_rules (rotate i j) b = (4 unless leb i j && leb j (width b)) ∷ []

-- the bank after an accepted change
abbrev pub after : Change → Bank → Bank
after from_value b = b
after (set_size n) b = resized n b
after (swap_free_slots i j) b = exchanged i j b
after (insert_from_back i) b = inserted_from_back i b
after (insert_first_free i) b = inserted_first_free i b
after (remove i) b = removed i b
after (remove_to_back i) b = removed_to_back i b
after (remove_slot s) b = removed (place_in_use s b) b
after (exchange i j) b = exchanged i j b
after (rotate i j) b = rotated i j b

-- what an accepted change hands out: an insertion from the back the slot that stands there, and nothing else
abbrev pub handed_out : Change → Bank → List ℕ
handed_out from_value b = []
handed_out (set_size n) b = []
handed_out (swap_free_slots i j) b = []
handed_out (insert_from_back i) b = slot_at (width b - 1) b ∷ []
handed_out (insert_first_free i) b = []
handed_out (remove i) b = []
handed_out (remove_to_back i) b = []
handed_out (remove_slot s) b = []
handed_out (exchange i j) b = []
handed_out (rotate i j) b = []

-- what an accepted change tells beside the bank: an insertion from the back the slot that it hands out, and then how many rest, which is
-- the width less the new size
abbrev pub told_beside : Change → Bank → List ℕ
told_beside from_value b = []
told_beside (set_size n) b = []
told_beside (swap_free_slots i j) b = []
told_beside (insert_from_back i) b = slot_at (width b - 1) b ∷ (width b - (inserted_from_back i b).size) ∷ []
told_beside (insert_first_free i) b = []
told_beside (remove i) b = []
told_beside (remove_to_back i) b = []
told_beside (remove_slot s) b = []
told_beside (exchange i j) b = []
told_beside (rotate i j) b = []

-- refusal 4: what each question needs
abbrev pub question_rules : Question → Bank → List Rule
question_rules size b = []
question_rules (get i) b = (4 unless ltb i (width b)) ∷ []
question_rules back b = []
question_rules (back_at_offset k) b = (4 unless ltb (b.size + k) (width b)) ∷ []

-- what an accepted question tells
abbrev pub told : Question → Bank → ℕ
told size b = b.size
told (get i) b = slot_at i b
told back b = slot_at (width b - 1) b
told (back_at_offset k) b = slot_at (width b - 1 - k) b
