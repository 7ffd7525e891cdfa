-- What each call on a bank asks is listed by rising number, above the refusals of width and word. Assumes nothing.
use lib.Dec.{T}
use Rattle.refusal.specs.Exactly.{listed_above}
use Rattle.bank.specs.Bank.{Bank}
use Rattle.bank.specs.Calls.{
  Change,
  from_value,
  set_size,
  swap_free_slots,
  insert_from_back,
  insert_first_free,
  remove,
  remove_to_back,
  remove_slot,
  exchange,
  rotate,
  Question,
  size,
  get,
  back,
  back_at_offset,
  change_rules,
  question_rules,
}

pub changes-listed : (c : Change) (b : Bank) → T (listed_above 2 (change_rules c b))
unfolding listed_above
changes-listed from_value b = tt
changes-listed (set_size n) b = tt
changes-listed (swap_free_slots i j) b = tt
changes-listed (insert_from_back i) b = tt
changes-listed (insert_first_free i) b = tt
changes-listed (remove i) b = tt
changes-listed (remove_to_back i) b = tt
changes-listed (remove_slot s) b = tt
changes-listed (exchange i j) b = tt
changes-listed (rotate i j) b = tt

pub questions-listed : (q : Question) (b : Bank) → T (listed_above 2 (question_rules q b))
unfolding listed_above
questions-listed size b = tt
questions-listed (get i) b = tt
questions-listed back b = tt
questions-listed (back_at_offset k) b = tt
