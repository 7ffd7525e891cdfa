-- Keys by value: the caller's bytes and three numbers. What the numbers are at a layer, when they fit, and what each call says.
use Rattle.std.specs.Prelude.{ℕ, zero, suc, ◌+◌, ◌-◌, ◌*◌, ◌/◌, ◌%◌, min, ◌≡◌, Bool, true, false, cond, ◌&&◌, ◌||◌, List, [], ◌∷◌, leb, ltb, eqb, length, drop}
use Rattle.std.specs.Borrow.{Bor}
use Rattle.order.specs.Bytes.{bytewise}
use Rattle.order.specs.Layer.{ikey_at, class_of, class_at, at_layer}
use Rattle.refusal.specs.Answer.{Answer, answered, ◌unless◌}
use Rattle.ikey.specs.Said.{place}

-- where the suffix starts after that many shifts: eight bytes on, or at the end
abbrev pub suffix_at : List ℕ → ℕ → ℕ
suffix_at bytes shifts = min (8 * shifts + 8) (length bytes)

-- the numbers of a key after that many shifts: ikey, shift count, suffix start
unfoldable pub numbers_at : List ℕ → ℕ → List ℕ
numbers_at bytes shifts = ikey_at bytes (8 * shifts) ∷ shifts ∷ suffix_at bytes shifts ∷ []

-- there is such a layer: no shift, or shifts that leave a byte
unfoldable pub reached : List ℕ → ℕ → Bool
reached bytes shifts = eqb shifts 0 || ltb (8 * shifts) (length bytes)

-- a key fits: it has at most 256 bytes, and its numbers are those of a layer that there is
unfoldable pub fits : List ℕ → ℕ → ℕ → ℕ → Bool
fits bytes ikey shifts suffix =
    leb (length bytes) 256
    && (reached bytes shifts && (eqb (ikey_at bytes (8 * shifts)) ikey && eqb (suffix_at bytes shifts) suffix))

-- a key has a suffix: more than 8 bytes remain at its layer
abbrev pub has_suffix : List ℕ → ℕ → Bool
has_suffix bytes shifts = ltb 8 (length bytes - 8 * shifts)

-- a call that asks something of a key: 7 unless it fits, and else these values
unfoldable pub asked : List ℕ → ℕ → ℕ → ℕ → List ℕ → Answer
asked bytes ikey shifts suffix values =
    answered ((7 unless fits bytes ikey shifts suffix) ∷ []) values (ikey ∷ shifts ∷ suffix ∷ [])

-- what a key may be asked
pub data Question : Type 0 where
  Judge : Question
  Len : Question
  Ikey : Question
  ShiftCount : Question
  SuffixStart : Question
  CurrentLen : Question
  IsEmpty : Question
  IsShifted : Question
  HasSuffix : Question
  SuffixLen : Question
  Compare : ℕ → ℕ → Question
  CompareSuffix : List ℕ → Question
  UnshiftAll : Question

-- yes is 1, no is 0
abbrev pub truth : Bool → ℕ
truth true = 1
truth false = 0

-- what is told of a key that fits: lengths in bytes; of a comparison 0 for less, 1 for equal, 2 for greater; of `unshift_all` the key
abbrev pub told : Question → List ℕ → ℕ → ℕ → ℕ → List ℕ
told Judge bytes ikey shifts suffix = []
told Len bytes ikey shifts suffix = length bytes ∷ []
told Ikey bytes ikey shifts suffix = ikey ∷ []
told ShiftCount bytes ikey shifts suffix = shifts ∷ []
told SuffixStart bytes ikey shifts suffix = suffix ∷ []
told CurrentLen bytes ikey shifts suffix = (length bytes - 8 * shifts) ∷ []
told IsEmpty bytes ikey shifts suffix = truth (eqb (length bytes) 0) ∷ []
told IsShifted bytes ikey shifts suffix = truth (ltb 0 shifts) ∷ []
told HasSuffix bytes ikey shifts suffix = truth (has_suffix bytes shifts) ∷ []
told SuffixLen bytes ikey shifts suffix = (length bytes - suffix) ∷ []
told (Compare other len) bytes ikey shifts suffix =
    place (at_layer ikey (class_at bytes (8 * shifts)) other (class_of len)) ∷ []
told (CompareSuffix other) bytes ikey shifts suffix = place (bytewise (drop suffix bytes) other) ∷ []
told UnshiftAll bytes ikey shifts suffix = numbers_at bytes 0

-- what a question is answered: 7 unless the key fits, and else what is told of it
abbrev pub answer_to : Question → List ℕ → ℕ → ℕ → ℕ → Answer
answer_to q bytes ikey shifts suffix = asked bytes ikey shifts suffix (told q bytes ikey shifts suffix)

-- the key against an ikey and a length, at its layer
abbrev pub compare_said : List ℕ → ℕ → ℕ → ℕ → ℕ → ℕ → Answer
compare_said bytes ikey shifts suffix other len = answer_to (Compare other len) bytes ikey shifts suffix

-- a call that moves a key to another layer: 7 unless it fits, 8 unless the move is allowed
unfoldable pub moved : List ℕ → ℕ → ℕ → ℕ → Bool → ℕ → Answer
moved bytes ikey shifts suffix allowed to =
    answered ((7 unless fits bytes ikey shifts suffix) ∷ (8 unless allowed) ∷ []) (numbers_at bytes to)
    (ikey ∷ shifts ∷ suffix ∷ [])

-- a new key, at layer 0: 7 where it has over 256 bytes
unfoldable pub new_said : List ℕ → Answer
new_said bytes = answered ((7 unless leb (length bytes) 256) ∷ []) (numbers_at bytes 0) []

-- one layer further: 8 unless the key has a suffix
abbrev pub shift_said : List ℕ → ℕ → ℕ → ℕ → Answer
shift_said bytes ikey shifts suffix = moved bytes ikey shifts suffix (has_suffix bytes shifts) (shifts + 1)

-- so many shifts, one after the other, of which each finds a suffix
unfoldable pub allows : ℕ → List ℕ → ℕ → Bool
allows zero bytes shifts = true
allows (suc n) bytes shifts = has_suffix bytes shifts && allows n bytes (shifts + 1)

-- a multiple of 8, and no more shifts than `shift` would allow
unfoldable pub shiftable : List ℕ → ℕ → ℕ → Bool
shiftable bytes shifts by = eqb (by % 8) 0 && allows (by / 8) bytes shifts

-- that many bytes further, all shifts or none
abbrev pub shift_by_said : List ℕ → ℕ → ℕ → ℕ → ℕ → Answer
shift_by_said bytes ikey shifts suffix by =
    moved bytes ikey shifts suffix (shiftable bytes shifts by) (shifts + by / 8)

-- one layer back: 8 at layer 0
abbrev pub unshift_said : List ℕ → ℕ → ℕ → ℕ → Answer
unshift_said bytes ikey shifts suffix = moved bytes ikey shifts suffix (ltb 0 shifts) (shifts - 1)

-- where the part that is handed back starts: for a key that does not fit, at the end
unfoldable pub suffix_from : List ℕ → ℕ → ℕ → ℕ → ℕ
suffix_from bytes ikey shifts suffix = cond (fits bytes ikey shifts suffix) suffix (length bytes)

-- where all bytes of a key start: at 0; for a key that does not fit, at the end
unfoldable pub data_from : List ℕ → ℕ → ℕ → ℕ → ℕ
data_from bytes ikey shifts suffix = cond (fits bytes ikey shifts suffix) 0 (length bytes)

-- r is the caller's own bytes from `start` on: which bytes they are, and where they lie
abbrev pub IsTail : Bor (List ℕ) → ℕ → Bor (List ℕ) → Type 0
IsTail s start r = (r.now ≡ drop start s.now) × ((r.ref_ptr.0 ≡ s.ref_ptr.0) × (r.ref_ptr.1 ≡ start + s.ref_ptr.1))
