-- The search of a leaf: what it answers, by document 01's numbers.
use Prim.Native.Nat.{Ordering}
use Rattle.std.specs.Prelude.{ℕ, ◌*◌, ◌≤◌, ◌<◌, ◌≡◌, true, false, cond, not, ◌&&◌, ◌||◌, List, [], ◌∷◌, ltb, eqb, length, get_or, drop}
use Rattle.std.specs.Prelude.{Result, Ok, Err}
use Rattle.std.proofs.Math.Dec.{compare_is_eq}
use Rattle.refusal.specs.Answer.{Answer, Rule, accepted, refused, answered, ◌unless◌}
use Rattle.bank.specs.Bank.{slot_at}
use Rattle.nibbles.specs.Words.{valid_word}
use Rattle.order.specs.Bytes.{Bytes}
use Rattle.order.specs.Layer.{ikey_at, class_at}
use Rattle.key_layer.specs.Keys.{fits}
pub use Rattle.lent_cells.specs.Cells.{stored_key, same_bytes}
unfoldable pub use Rattle.lent_cells.specs.Cells.{stored_suffix}
use Rattle.leaf_entries.specs.declared.Entry.{Entry}
use Rattle.leaf.specs.declared.Outcome.{Outcome}
use Rattle.leaf.specs.declared.Outcome.TheVariants.{Found, Conflict, Layer, NotFound}
use Rattle.leaf.specs.declared.Refused.{Refused}
use Rattle.leaf.specs.Lists.{first_where}
use Rattle.leaf.specs.Leaf.{none, slots_of, entries_in_order, rank, against, is_less, lent_right, good_entries}

-- the values of an accepted search that found the key: 0, and its slot
abbrev pub found : ℕ → List ℕ
found slot = 0 ∷ slot ∷ []

-- of a conflict: 1, and the slot of the other key
abbrev pub conflict : ℕ → List ℕ
conflict slot = 1 ∷ slot ∷ []

-- of a link with this ikey: 2, and its slot
abbrev pub layer : ℕ → List ℕ
layer slot = 2 ∷ slot ∷ []

-- of a key that is not there: 3, and the first position whose entry is greater, or the size
abbrev pub not_found : ℕ → List ℕ
not_found position = 3 ∷ position ∷ []

-- what comes back where a search is refused: the word, and the key's three numbers
abbrev pub given_back : ℕ → ℕ → ℕ → ℕ → List ℕ
given_back word ikey shifts start = word ∷ ikey ∷ shifts ∷ start ∷ []

-- the values of each outcome: which it is, and its number
abbrev pub values_of : Outcome → List ℕ
values_of (Found slot) = found slot
values_of (Conflict slot) = conflict slot
values_of (Layer slot) = layer slot
values_of (NotFound position) = not_found position

-- what the answer says: 0, the outcome and its number, or the refusal's number and what was given
abbrev pub said_searched : Result Outcome Refused → Answer
said_searched (Ok met) = accepted (values_of met)
said_searched (Err r) = refused r.why (given_back r.word r.ikey r.shift_count r.suffix_start)

-- the outcome at an entry with the key's ikey and class: a link is a layer; of two longer ones the suffixes decide between
-- found and conflict; with up to 8 bytes ikey and length say all
unfoldable pub met_with : List ℕ → List ℕ → List ℕ → ℕ → Entry → ℕ → List ℕ
met_with cells bytes key start e slot =
    cond (eqb e.class 10) (layer slot)
    (cond (eqb e.class 9 && not (same_bytes (stored_suffix cells bytes e.at start) (drop start key)))
    (conflict slot) (found slot))

-- the first position whose entry has this ikey and class
abbrev pub place_equal : ℕ → ℕ → List Entry → ℕ
place_equal ikey class es = first_where (λ e. compare_is_eq (against ikey class e)) es

-- the first position whose entry is greater than this ikey and class
abbrev pub place_greater : ℕ → ℕ → List Entry → ℕ
place_greater ikey class es = first_where (λ e. is_less (against ikey class e)) es

-- The outcome of a search: at the entry that has the key's ikey and class, if there is one; else not found, with the first
-- position whose entry is greater, or the size.
unfoldable pub outcome : ℕ → List Entry → List ℕ → List ℕ → List ℕ → ℕ → ℕ → ℕ → List ℕ
outcome word entries cells bytes key ikey class start =
    let es = entries_in_order word entries in
    let p = place_equal ikey class es in
    cond (ltb p (length es)) (met_with cells bytes key start (get_or es p none) (slot_at p (slots_of word)))
    (not_found (place_greater ikey class es))

-- a position whose entry has this ikey and class
pub record Meets (ikey class : ℕ) (es : List Entry) (p : ℕ) : Type 0 where
  pub within : p < length es
  pub same-ikey : (get_or es p none).ikey ≡ ikey
  pub same_class : rank (get_or es p none) ≡ class

-- a position where this ikey and class belong: all entries before it are less, and all from it on are greater
pub record Belongs (ikey class : ℕ) (es : List Entry) (p : ℕ) : Type 0 where
  pub within : p ≤ length es
  pub before : (k : ℕ) → k < p → against ikey class (get_or es k none) ≡ Ordering.gt
  pub after : (k : ℕ) → p ≤ k → k < length es → against ikey class (get_or es k none) ≡ Ordering.lt

-- an entry says what its cell holds at a layer: the cell's key has the entry's ikey and class there
pub record Says (cells bytes : List ℕ) (offset : ℕ) (e : Entry) : Type 0 where
  pub stored-whole : e.class ≤ 9
  pub stored_bytes : Bytes (stored_key cells bytes e.at)
  pub stored-ikey : ikey_at (stored_key cells bytes e.at) offset ≡ e.ikey
  pub stored-class : class_at (stored_key cells bytes e.at) offset ≡ rank e

-- refusals 3, 7 and 10: with wrong lent lengths only the word is judged for 3
abbrev pub search_rules : ℕ → List Entry → List ℕ → List ℕ → List ℕ → ℕ → ℕ → ℕ → List Rule
search_rules word entries cells bytes key ikey shifts start =
    (3 unless valid_word 15 word && (not (lent_right cells bytes) || good_entries cells (entries_in_order word entries)))
    ∷ (7 unless fits key ikey shifts start)
    ∷ (10 unless lent_right cells bytes)
    ∷ []

-- what a search answers
unfoldable pub search_said : ℕ → List Entry → List ℕ → List ℕ → List ℕ → ℕ → ℕ → ℕ → Answer
search_said word entries cells bytes key ikey shifts start =
    answered (search_rules word entries cells bytes key ikey shifts start)
    (outcome word entries cells bytes key ikey (class_at key (8 * shifts)) start)
    (given_back word ikey shifts start)

-- the rest of the rules where the word is valid and the lent lengths are wrong
unfoldable pub unlent_said : ℕ → List ℕ → ℕ → ℕ → ℕ → Answer
unlent_said word key ikey shifts start =
    answered ((7 unless fits key ikey shifts start) ∷ (10 unless false) ∷ []) [] (given_back word ikey shifts start)

-- the rest of the rules where the word is valid and the lent lengths are right
unfoldable pub lent_said : ℕ → List Entry → List ℕ → List ℕ → List ℕ → ℕ → ℕ → ℕ → Answer
lent_said word entries cells bytes key ikey shifts start =
    answered ((3 unless good_entries cells (entries_in_order word entries)) ∷ (7 unless fits key ikey shifts start) ∷ [])
    (outcome word entries cells bytes key ikey (class_at key (8 * shifts)) start)
    (given_back word ikey shifts start)

-- what the scan may count on: nothing of the leaf, the cells and the key is to be refused
pub record Searchable (word : ℕ) (entries : List Entry) (cells bytes key : List ℕ) (ikey shifts start : ℕ) : Type 0 where
  pub word-valid : valid_word 15 word ≡ true
  pub lent : lent_right cells bytes ≡ true
  pub good : good_entries cells (entries_in_order word entries) ≡ true
  pub fit : fits key ikey shifts start ≡ true
