-- The parts of the caller's bytes, beside the number of a refusal: what `suffix` and `full_data` answer.
use Rattle.std.specs.Prelude.{ℕ, ◌+◌, ◌≡◌, List, [], ◌∷◌, drop}
use Rattle.std.specs.Borrow.{Bor}
use Rattle.refusal.specs.Answer.{Answer, answered, ◌unless◌}
use Rattle.key_layer.specs.Keys.{fits, suffix_from, data_from}
use Rattle.key.specs.declared.Part.{Part}

-- a part beside its refusal, by document 01's numbers: the values are the bytes themselves
abbrev pub said_part : Part → Answer
said_part part = record { number = part.refusal; values = part.bytes.now }

-- the suffix: 7 unless the key fits, and else the bytes from the suffix start on; refused, no byte
unfoldable pub suffix_said : List ℕ → ℕ → ℕ → ℕ → Answer
suffix_said bytes ikey shifts suffix = answered ((7 unless fits bytes ikey shifts suffix) ∷ []) (drop suffix bytes) []

-- the whole key: 7 unless it fits, and else all its bytes; refused, no byte
unfoldable pub data_said : List ℕ → ℕ → ℕ → ℕ → Answer
data_said bytes ikey shifts suffix = answered ((7 unless fits bytes ikey shifts suffix) ∷ []) bytes []

-- where a part lies: in the caller's own bytes, so many bytes on
abbrev pub LiesFrom : Bor (List ℕ) → ℕ → Bor (List ℕ) → Type 0
LiesFrom s start r = (r.ref_ptr.0 ≡ s.ref_ptr.0) × (r.ref_ptr.1 ≡ start + s.ref_ptr.1)

-- the suffix of a key, its bytes and their place: that of a key that does not fit lies at the caller's own end
abbrev pub IsSuffix : Bor (List ℕ) → ℕ → ℕ → ℕ → Part → Type 0
IsSuffix s ikey shifts suffix r =
    (said_part r ≡ suffix_said s.now ikey shifts suffix) × LiesFrom s (suffix_from s.now ikey shifts suffix) r.bytes

-- all bytes of a key, and their place, likewise
abbrev pub IsData : Bor (List ℕ) → ℕ → ℕ → ℕ → Part → Type 0
IsData s ikey shifts suffix r =
    (said_part r ≡ data_said s.now ikey shifts suffix) × LiesFrom s (data_from s.now ikey shifts suffix) r.bytes
