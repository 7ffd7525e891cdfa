-- A key beside a refusal's number, made of what a plain call says and of the slice that was passed.
use Rattle.std.specs.Prelude.{ℕ, List, [], ◌∷◌}
use Rattle.std.specs.Borrow.{Bor}
use Rattle.refusal.specs.Answer.{Answer}
use Rattle.key_layer.specs.Keys.{Question, answer_to}
use Rattle.keys_moved_numbers.specs.declared.Numbers.{Numbers}
use Rattle.keys_moved_numbers.specs.Numbers.{numbers_in}
use Rattle.keys_held.specs.declared.Key.{Key}
use Rattle.keys_held.specs.declared.Keyed.{Keyed}

-- what a question is answered of a key that holds its bytes: what the plain call answers of them and of its numbers
abbrev pub answer_of : Question → Key → Answer
answer_of q k = answer_to q k.bytes.now k.ikey k.shift_count k.suffix_start

-- the key of this slice and these numbers, beside the refusal
abbrev pub holding : Bor (List ℕ) → Numbers → Keyed
holding bytes n =
    record {
      refusal = n.refusal;
      key = record { bytes = bytes; ikey = n.ikey; shift_count = n.shift_count; suffix_start = n.suffix_start };
    }

-- the numbers of a key beside its refusal, without the bytes
abbrev pub numbers_held : Keyed → Numbers
numbers_held r =
    record { refusal = r.refusal; ikey = r.key.ikey; shift_count = r.key.shift_count; suffix_start = r.key.suffix_start }

-- what a plain call says, and the same slice: the same bytes, at the same place
abbrev pub keyed_of : Bor (List ℕ) → Answer → Keyed
keyed_of bytes said = holding bytes (numbers_in said)

-- a key beside its refusal, by document 01's numbers
abbrev pub said_keyed : Keyed → Answer
said_keyed r = record { number = r.refusal; values = r.key.ikey ∷ r.key.shift_count ∷ r.key.suffix_start ∷ [] }
