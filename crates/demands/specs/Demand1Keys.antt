-- Demand 1, the calls on keys: 7 unless the key fits its own bytes, then 8 for a shift that it does not allow; refused, the key comes back.
--
-- A key is the caller's bytes and three numbers: ikey, shift count, suffix start. `AsRuled` is told of in `Demand1.antt`. A key of crate
-- `held_key` holds its bytes; its calls are listed behind the plain ones.
use Rattle.std.specs.Prelude.{ℕ, ◌+◌, ◌-◌, ◌*◌, ◌/◌, min, ◌≡◌, Bool, true, false, cond, ◌&&◌, List, [], ◌∷◌, leb, ltb, eqb, length, drop}
use Rattle.std.proofs.Math.Path.{refl, ap, subst}
use Rattle.std.proofs.Common.{sym, ◌∙◌}
use Rattle.std.specs.Borrow.{Bor}
use Rattle.refusal.specs.Answer.{Answer, Rule, accepted, answered, ◌unless◌}
use Rattle.refusal.specs.Exactly.{listed_above, AsRuled}
use Rattle.refusal.proofs.Exactly.{as-ruled}
use Rattle.order.specs.Bytes.{bytewise}
use Rattle.order.specs.Layer.{ikey_at, class_at, class_of, at_layer}
use Rattle.ikey.specs.Said.{place, compare_keys_said}
use Rattle.key_layer.specs.Keys.{fits, numbers_at, has_suffix, shiftable, asked, moved, new_said, shift_said, shift_by_said, unshift_said, truth}
use Rattle.key_layer.specs.Keys.{Question, Judge, Len, Ikey, ShiftCount, SuffixStart, CurrentLen, IsEmpty, IsShifted, HasSuffix, SuffixLen}
use Rattle.key_layer.specs.Keys.{Compare, CompareSuffix, UnshiftAll, told, answer_to, suffix_from, data_from}
use Rattle.key_layer.proofs.Fitting.{Fitting, fitting}
use Rattle.key.specs.declared.Part.{Part}
use Rattle.key.specs.Parts.{said_part, suffix_said, data_said, LiesFrom, IsSuffix, IsData}
use Rattle.keys_held.specs.declared.Key.{Key}
use Rattle.keys_held.specs.declared.Keyed.{Keyed}
use Rattle.held_key.specs.Held.{answer_of, keyed_of, said_keyed}
use Rattle.held_key.proofs.One.{moved-said, back-said}

module _ (bytes : List ℕ) (ikey shifts suffix : ℕ) where
  -- 7 unless the key fits its bytes, and then what the call needs
  abbrev pub key_rules : List Rule → List Rule
  key_rules rules = (7 unless fits bytes ikey shifts suffix) ∷ rules

  -- a refused key comes back as its three numbers
  abbrev pub key_given : List ℕ
  key_given = ikey ∷ shifts ∷ suffix ∷ []

  -- ---- what a key is asked

  -- Every question (judge, len, ikey, shift_count, suffix_start, current_len, is_empty, is_shifted, has_suffix, suffix_len, compare,
  -- compare_suffix, unshift_all): 7 alone.
  pub key-questions : (q : Question)
      → AsRuled (key_rules []) (told q bytes ikey shifts suffix) key_given (answer_to q bytes ikey shifts suffix)
  unfolding asked listed_above
  key-questions q = as-ruled tt

  -- the call is accepted, with these values
  abbrev Tells : Question → List ℕ → Type 0
  Tells q values = answer_to q bytes ikey shifts suffix ≡ accepted values

  -- What each call tells of a key that fits, by its bytes and its shift count alone. Yes is 1 and no is 0; of a comparison less is 0,
  -- equal is 1, greater is 2.
  pub record TellsOfKey : Type 0 where
    -- it fits
    pub judge : Tells Judge []
    -- the number of its bytes
    pub len : Tells Len (length bytes ∷ [])
    -- the next 8 bytes at its layer, zero-filled at the end
    pub the-ikey : Tells Ikey (ikey_at bytes (8 * shifts) ∷ [])
    -- how often it was shifted
    pub shift_count : Tells ShiftCount (shifts ∷ [])
    -- behind those 8 bytes, or the end
    pub suffix-start : Tells SuffixStart (min (8 * shifts + 8) (length bytes) ∷ [])
    -- the bytes that remain at its layer
    pub current-len : Tells CurrentLen ((length bytes - 8 * shifts) ∷ [])
    -- no byte at all
    pub is-empty : Tells IsEmpty (truth (eqb (length bytes) 0) ∷ [])
    -- the shift count is not 0
    pub is-shifted : Tells IsShifted (truth (ltb 0 shifts) ∷ [])
    -- more than 8 bytes remain
    pub has-suffix : Tells HasSuffix (truth (ltb 8 (length bytes - 8 * shifts)) ∷ [])
    -- the bytes behind the suffix start
    pub suffix_len : Tells SuffixLen ((length bytes - min (8 * shifts + 8) (length bytes)) ∷ [])
    -- by ikey, then length 0 to 8, then longer: one layer only
    pub compare : (other len : ℕ)
        → Tells (Compare other len)
        (place (at_layer (ikey_at bytes (8 * shifts)) (class_of (length bytes - 8 * shifts)) other (class_of len)) ∷ [])
    -- the suffix, byte by byte, with another
    pub compare-suffix : (other : List ℕ)
        → Tells (CompareSuffix other) (place (bytewise (drop (min (8 * shifts + 8) (length bytes)) bytes) other) ∷ [])
    -- the key at layer 0
    pub unshift-all : Tells UnshiftAll (ikey_at bytes 0 ∷ 0 ∷ min 8 (length bytes) ∷ [])

  -- a key that fits is told of, whatever is asked
  taken : fits bytes ikey shifts suffix ≡ true → (values : List ℕ) → asked bytes ikey shifts suffix values ≡ accepted values
  unfolding asked
  taken fit values = rw fit

  -- each of them, of any key that fits
  pub key-tells : fits bytes ikey shifts suffix ≡ true → TellsOfKey
  unfolding numbers_at
  key-tells fit =
      let f = fitting bytes ikey shifts suffix {r = fits bytes ikey shifts suffix} refl fit in
      record {
        judge = taken fit _;
        len = taken fit _;
        the-ikey = taken fit _ ∙ ap (λ (x : ℕ). accepted (x ∷ [])) (sym f.word);
        shift_count = taken fit _;
        suffix-start = taken fit _ ∙ ap (λ (x : ℕ). accepted (x ∷ [])) f.start;
        current-len = taken fit _;
        is-empty = taken fit _;
        is-shifted = taken fit _;
        has-suffix = taken fit _;
        suffix_len = taken fit _ ∙ ap (λ (x : ℕ). accepted ((length bytes - x) ∷ [])) f.start;
        compare = λ other len. taken fit _
            ∙ ap (λ (x : ℕ). accepted (place (at_layer x (class_at bytes (8 * shifts)) other (class_of len)) ∷ [])) (sym f.word);
        compare-suffix = λ other. taken fit _ ∙ ap (λ (x : ℕ). accepted (place (bytewise (drop x bytes) other) ∷ [])) f.start;
        unshift-all = taken fit _;
      }

  -- ---- keys moved

  -- Calls that move a key to another layer: 7, then 8. `shift` needs a suffix,
  pub key-shifts : AsRuled (key_rules ((8 unless has_suffix bytes shifts) ∷ [])) (numbers_at bytes (shifts + 1)) key_given
      (shift_said bytes ikey shifts suffix)
  unfolding moved listed_above
  key-shifts = as-ruled tt

  -- `shift_by` a multiple of 8, and no more shifts than `shift` would allow,
  pub key-shifts-by : (by : ℕ)
      → AsRuled (key_rules ((8 unless shiftable bytes shifts by) ∷ [])) (numbers_at bytes (shifts + by / 8)) key_given
      (shift_by_said bytes ikey shifts suffix by)
  unfolding moved listed_above
  key-shifts-by by = as-ruled tt

  -- and `unshift` a layer above.
  pub key-unshifts : AsRuled (key_rules ((8 unless ltb 0 shifts) ∷ [])) (numbers_at bytes (shifts - 1)) key_given
      (unshift_said bytes ikey shifts suffix)
  unfolding moved listed_above
  key-unshifts = as-ruled tt

-- A new key: 7 over 256 bytes.
pub new-keys : (bytes : List ℕ) → AsRuled ((7 unless leb (length bytes) 256) ∷ []) (numbers_at bytes 0) [] (new_said bytes)
unfolding new_said listed_above
new-keys bytes = as-ruled tt

-- Two whole keys: 7 where either is longer, else 0 for less, 1 for equal, 2 for greater.
pub whole-keys : (a b : List ℕ)
    → AsRuled ((7 unless leb (length a) 256 && leb (length b) 256) ∷ []) (place (bytewise a b) ∷ []) [] (compare_keys_said a b)
unfolding compare_keys_said listed_above
whole-keys a b = as-ruled tt

-- ---- parts of the caller's bytes: the number of the refusal stands beside the part

module _ (s : Bor (List ℕ)) (ikey shifts suffix : ℕ) where
  -- The answer is 7 unless the key fits, with no byte; else it is 0 and the part has these bytes. It lies in the caller's own bytes, from
  -- the start on, or at their end.
  pub record PartAsRuled (start : ℕ) (values : List ℕ) (r : Part) : Type 0 where
    pub ruled : AsRuled (key_rules s.now ikey shifts suffix []) values [] (said_part r)
    pub lies : LiesFrom s (cond (fits s.now ikey shifts suffix) start (length s.now)) r.bytes

  module _ (r : Part) where
    -- The suffix: the bytes from the suffix start on.
    pub suffix-parts : IsSuffix s ikey shifts suffix r → PartAsRuled suffix (drop suffix s.now) r
    unfolding suffix_said suffix_from listed_above
    suffix-parts e =
        record {
          ruled = subst (AsRuled (key_rules s.now ikey shifts suffix []) (drop suffix s.now) []) (sym e.0) (as-ruled tt);
          lies = e.1;
        }

    -- All bytes.
    pub data-parts : IsData s ikey shifts suffix r → PartAsRuled 0 s.now r
    unfolding data_said data_from listed_above
    data-parts e =
        record { ruled = subst (AsRuled (key_rules s.now ikey shifts suffix []) s.now []) (sym e.0) (as-ruled tt); lies = e.1 }

-- ---- keys that hold their bytes

-- A key beside a refusal's number is as the rules say, and it holds the slice that was passed: the same bytes, at the same place.
pub record HeldAsRuled (rules : List Rule) (values back : List ℕ) (s : Bor (List ℕ)) (r : Keyed) : Type 0 where
  pub ruled : AsRuled rules values back (said_keyed r)
  pub slice : r.key.bytes ≡ s

-- a new key that is refused has three zeros
new-zeros : (s : Bor (List ℕ)) (t : Bool)
    → said_keyed (keyed_of s (answered ((7 unless t) ∷ []) (numbers_at s.now 0) []))
    ≡ answered ((7 unless t) ∷ []) (numbers_at s.now 0) (0 ∷ 0 ∷ 0 ∷ [])
unfolding numbers_at
new-zeros s true = refl
new-zeros s false = refl

-- `new`: 7 over 256 bytes.
pub held_new : (s : Bor (List ℕ)) (r : Keyed) → r ≡ keyed_of s (new_said s.now)
    → HeldAsRuled ((7 unless leb (length s.now) 256) ∷ []) (numbers_at s.now 0) (0 ∷ 0 ∷ 0 ∷ []) s r
unfolding new_said listed_above
held_new s r e = record {
  ruled = subst (AsRuled ((7 unless leb (length s.now) 256) ∷ []) (numbers_at s.now 0) (0 ∷ 0 ∷ 0 ∷ []))
      (sym (ap said_keyed e ∙ new-zeros s (leb (length s.now) 256))) (as-ruled tt);
  slice = ap (λ (x : Keyed). x.key.bytes) e;
}

module _ (k : Key) where
  -- the key's bytes
  abbrev bytes : List ℕ
  bytes = k.bytes.now

  -- how often it was shifted
  abbrev shifts : ℕ
  shifts = k.shift_count

  -- 7 where the key does not fit, and behind it what a call asks for more
  abbrev rules : List Rule → List Rule
  rules more = key_rules bytes k.ikey shifts k.suffix_start more

  -- what a refused call hands back
  abbrev given : List ℕ
  given = key_given bytes k.ikey shifts k.suffix_start

  -- Every question: 7 alone, and what the plain call tells.
  pub held-questions : (q : Question) → AsRuled (rules []) (told q bytes k.ikey shifts k.suffix_start) given (answer_of q k)
  held-questions q = key-questions bytes k.ikey shifts k.suffix_start q

  module _ (r : Keyed) where
    -- a move is as the plain one, and the slice stays
    moves : (allowed : Bool) (to : ℕ) → r ≡ keyed_of k.bytes (moved bytes k.ikey shifts k.suffix_start allowed to)
        → HeldAsRuled (rules ((8 unless allowed) ∷ [])) (numbers_at bytes to) given k.bytes r
    unfolding moved listed_above
    moves allowed to e = record {
      ruled = subst (AsRuled (rules ((8 unless allowed) ∷ [])) (numbers_at bytes to) given)
          (sym (moved-said k.bytes k.ikey shifts k.suffix_start allowed to e)) (as-ruled tt);
      slice = ap (λ (x : Keyed). x.key.bytes) e;
    }

    -- `shift`: 7, then 8 with no suffix,
    pub held-shifts : r ≡ keyed_of k.bytes (shift_said bytes k.ikey shifts k.suffix_start)
        → HeldAsRuled (rules ((8 unless has_suffix bytes shifts) ∷ [])) (numbers_at bytes (shifts + 1)) given k.bytes r
    held-shifts e = moves (has_suffix bytes shifts) (shifts + 1) e

    -- `shift_by`: 7, then 8 for no multiple of 8 or too many shifts,
    pub held-shifts-by : (by : ℕ) → r ≡ keyed_of k.bytes (shift_by_said bytes k.ikey shifts k.suffix_start by)
        → HeldAsRuled (rules ((8 unless shiftable bytes shifts by) ∷ [])) (numbers_at bytes (shifts + by / 8)) given k.bytes r
    held-shifts-by by e = moves (shiftable bytes shifts by) (shifts + by / 8) e

    -- `unshift`: 7, then 8 at layer 0.
    pub held-unshifts : r ≡ keyed_of k.bytes (unshift_said bytes k.ikey shifts k.suffix_start)
        → HeldAsRuled (rules ((8 unless ltb 0 shifts) ∷ [])) (numbers_at bytes (shifts - 1)) given k.bytes r
    held-unshifts e = moves (ltb 0 shifts) (shifts - 1) e

    -- `unshift_all`: 7 alone.
    pub held_back : r ≡ keyed_of k.bytes (answer_of UnshiftAll k) → HeldAsRuled (rules []) (numbers_at bytes 0) given k.bytes r
    unfolding asked listed_above
    held_back e = record {
      ruled = subst (AsRuled (rules []) (numbers_at bytes 0) given)
          (sym (back-said k.bytes k.ikey shifts k.suffix_start e)) (as-ruled tt);
      slice = ap (λ (x : Keyed). x.key.bytes) e;
    }

  -- `suffix`: as the plain call, of the key's own slice,
  pub held-suffixes : (r : Part) → IsSuffix k.bytes k.ikey shifts k.suffix_start r
      → PartAsRuled k.bytes k.ikey shifts k.suffix_start k.suffix_start (drop k.suffix_start bytes) r
  unfolding suffix_said suffix_from listed_above
  held-suffixes r e =
      record { ruled = subst (AsRuled (rules []) (drop k.suffix_start bytes) []) (sym e.0) (as-ruled tt); lies = e.1 }

  -- and so `full_data`.
  pub held-data : (r : Part) → IsData k.bytes k.ikey shifts k.suffix_start r
      → PartAsRuled k.bytes k.ikey shifts k.suffix_start 0 bytes r
  unfolding data_said data_from listed_above
  held-data r e = record { ruled = subst (AsRuled (rules []) bytes []) (sym e.0) (as-ruled tt); lies = e.1 }
