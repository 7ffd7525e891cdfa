-- What a recorded call asks of the slot words, by its code.
use Rattle.std.specs.Prelude.{ℕ, List, [], ◌∷◌, get_or}
use Rattle.refusal.specs.Answer.{Answer}
use Rattle.bank.specs.Calls.{
  from_value,
  set_size,
  swap_free_slots,
  insert_from_back,
  insert_first_free,
  remove,
  remove_to_back,
  remove_slot,
  exchange,
  rotate,
  size,
  get,
  back,
  back_at_offset,
}
use Rattle.permuter.specs.Words.{changed, asked, made_sorted, made_empty}
use Rattle.replay_slots.specs.declared.asked.Said.{Said}

-- an answer as four numbers: the number, the first value, the second and the third, or 0 where there is none
unfoldable pub said_of : Answer → Said
said_of a =
    record { number = a.number; first = get_or a.values 0 0; second = get_or a.values 1 0; third = get_or a.values 2 0 }

-- a code that no call has
abbrev pub no_call : Answer
no_call = record { number = 16; values = [] }

-- the answers of all calls on a word, by their code
abbrev pub answers : ℕ → ℕ → ℕ → ℕ → List Answer
answers w word a b =
    made_empty w ∷
    made_sorted w a ∷
    changed w word from_value ∷
    asked w word size ∷
    asked w word (get a) ∷
    asked w word back ∷
    asked w word (back_at_offset a) ∷
    changed w word (set_size a) ∷
    changed w word (swap_free_slots a b) ∷
    changed w word (insert_from_back a) ∷
    changed w word (remove a) ∷
    changed w word (remove_to_back a) ∷
    changed w word (remove_slot a) ∷
    changed w word (exchange a b) ∷
    changed w word (rotate a b) ∷
    changed w word (insert_first_free a) ∷
    []

-- the answer of the call with this code
unfoldable pub called : ℕ → ℕ → ℕ → ℕ → ℕ → Answer
called call w word a b = get_or (answers w word a b) call no_call
