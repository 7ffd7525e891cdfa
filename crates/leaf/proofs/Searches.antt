-- A law for each way in which a search returns. Assumes nothing.
use Prim.Native.Nat.{ℕ, ◌+◌, ◌*◌, ◌-◌, ◌%◌, ◌≤◌, ◌<◌, Ordering}
use mathlib.Core.Path.{◌≡◌, refl, sym, ap, ◌∙◌}
use mathlib.Core.Bool.{Bool, true, false, not}
use mathlib.Core.List.{List}
use native.Mathlib.Omega.{arith}
use native.Mathlib.Decide.{dec_lt}
use lib.Dec.{compare_is_eq}
use lib.ListN.{length, get_or, drop}
use borrow.Author.Count.{below_more}
use borrow.Author.Rules.{rules}
use borrow.Author.Tests.{lt-ltb, le-ltb, eq-eqb, ne_eqb, not-true, not-false}
use Rattle.refusal.specs.Answer.{Answer, accepted, refused}
use Rattle.refusal.specs.declared.Refusal.TheVariants.{Node, Key, Memory}
use Rattle.bank.specs.Bank.{slot_at}
use Rattle.nibbles.specs.Words.{valid_word}
use Rattle.order.specs.Layer.{class_of, class_at}
use Rattle.std.specs.declared.cmp.Ordering.{Ordering as Ordered}
use Rattle.std.specs.declared.cmp.Ordering.TheVariants.{Less, Equal, Greater}
use Rattle.ikey.specs.Said.{order_of}
use Rattle.key_layer.specs.Keys.{fits}
use Rattle.key_layer.proofs.Fitting.{suffix_within}
use Rattle.lent_cells.proofs.Cells.{lent-right, cell-right}
use Rattle.leaf_entries.specs.declared.Entry.{Entry}
use Rattle.leaf.specs.Leaf.{none, slots_of, entries_in_order, against, is_less, lent_right, Lent, Cell, of_kind, good_entries}
use Rattle.leaf.specs.Search.{
  found,
  given_back,
  conflict,
  layer,
  not_found,
  stored_suffix,
  same_bytes,
  met_with,
  place_equal,
  place_greater,
  outcome,
  search_said,
  unlent_said,
  lent_said,
  Searchable,
}
use Rattle.leaf.proofs.Lists.{every-at, first-at, first-none}
use Rattle.leaf.proofs.Orders.{all_above}
use Rattle.leaf.proofs.Views.{length-in-order, entry-in-order}
use Rattle.leaf_entries.proofs.Judged.{kind-has-cell, good-parts}

-- ---- the entry that has the key's ikey and class

module _ (cells bytes key : List ℕ) (start : ℕ) (e : Entry) (slot : ℕ) where
  pub met-layer : e.class ≡ 10 → layer slot ≡ met_with cells bytes key start e slot
  unfolding met_with
  met-layer h = rw (eq-eqb e.class 10 h)

  module _ (h : e.class ≡ 10 → ⊥) where
    pub met-short : (e.class ≡ 9 → ⊥) → found slot ≡ met_with cells bytes key start e slot
    unfolding met_with
    met-short q = rw (ne_eqb e.class 10 h, ne_eqb e.class 9 q)

    module _ (q : e.class ≡ 9) {r : Bool} (d : r ≡ same_bytes (stored_suffix cells bytes e.at start) (drop start key)) where
      pub met-found : r ≡ true → found slot ≡ met_with cells bytes key start e slot
      unfolding met_with
      met-found t = rw (ne_eqb e.class 10 h, eq-eqb e.class 9 q, ← d, t)

      pub met-conflict : r ≡ false → conflict slot ≡ met_with cells bytes key start e slot
      unfolding met_with
      met-conflict t = rw (ne_eqb e.class 10 h, eq-eqb e.class 9 q, ← d, t)

-- its suffixes may be compared
pub met-suffix : (cells bytes key : List ℕ) (start : ℕ) (e : Entry) → lent_right cells bytes ≡ true → of_kind cells e ≡ true
    → (e.class ≡ 10 → ⊥)
    → start ≤ length key → Lent cells bytes × Cell cells e.at × (start ≤ length key)
met-suffix cells bytes key start e l k q h = (lent-right cells bytes l, cell-right cells e.at (kind-has-cell cells e k q), h)

-- ---- the scan

-- a key that fits has its suffix within its bytes
pub start-within : (key : List ℕ) (ikey shifts start : ℕ) → fits key ikey shifts start ≡ true → start ≤ length key
start-within key ikey shifts start e = suffix_within key ikey shifts start refl e

class-small : (key : List ℕ) (offset : ℕ) → class_at key offset < 10
class-small key offset = omega arith

module _ {word : ℕ} {entries : List Entry} {cells bytes key : List ℕ} {ikey shifts start : ℕ}
    (s : Searchable word entries cells bytes key ikey shifts start) {size : ℕ} (es : size ≡ word % 16) where
  abbrev view : List Entry
  view = entries_in_order word entries

  abbrev class : ℕ
  class = class_at key (8 * shifts)

  abbrev answer : List ℕ
  answer = outcome word entries cells bytes key ikey class start

  abbrev Before : ℕ → Type 0
  Before i = (k : ℕ) → k < i → against ikey class (get_or view k none) ≡ Ordering.gt

  long : length view ≡ size
  long = length-in-order word s.word-valid entries ∙ sym es

  -- none of the entries that the scan went past is equal, or greater
  not_equal : {o : Ordering} → o ≡ Ordering.gt → compare_is_eq o ≡ false
  not_equal h = rw h

  not-less : {o : Ordering} → o ≡ Ordering.gt → is_less o ≡ false
  not-less h = rw h

  outcome-none : {p : ℕ} → length view ≡ place_equal ikey class view → p ≡ place_greater ikey class view
      → not_found p ≡ answer
  unfolding outcome
  outcome-none d e = rw (← d, le-ltb (length view) (length view) (omega arith), e)

  pub scan-end : (i : ℕ) → size ≤ i → Before i → not_found size ≡ answer
  scan-end i l f =
      outcome-none
      (first-none (λ e. compare_is_eq (against ikey class e)) none view (λ k m. not_equal (f k (omega (arith, long)))))
      (sym long
      ∙ first-none (λ e. is_less (against ikey class e)) none view (λ k m. not-less (f k (omega (arith, long)))))

  module _ (i : ℕ) {slot len : ℕ} (r : Ordered) (el : len ≡ length key - 8 * shifts) (l : i < size) (f : Before i)
      (d : slot ≡ slot_at i (slots_of word))
      (o : order_of r ≡ against ikey (class_of len) (get_or entries slot none)) where
    here : get_or view i none ≡ get_or entries slot none
    here = entry-in-order word s.word-valid entries i (omega arith) d

    compared : against ikey class (get_or view i none) ≡ order_of r
    compared = rw here (sym (o ∙ ap (λ (n : ℕ). against ikey (class_of n) (get_or entries slot none)) el))

    pub scan-on : r ≡ Greater → (k : ℕ) → k < i + 1 → against ikey class (get_or view k none) ≡ Ordering.gt
    scan-on q = below_more _ i f (compared ∙ ap order_of q)

    pub scan-met : {x : List ℕ} → r ≡ Equal → x ≡ met_with cells bytes key start (get_or entries slot none) slot → x ≡ answer
    unfolding outcome
    scan-met q e =
        let p : i ≡ place_equal ikey class view
        = first-at (λ e. compare_is_eq (against ikey class e)) none view i (omega (arith, long)) (λ k m. not_equal (f k m))
        (ap compare_is_eq (compared ∙ ap order_of q)) in
        e ∙ rw (← p, lt-ltb i (length view) (omega (arith, long)), here, ← d)

    -- past an entry that is greater all are, so none is equal
    apart : r ≡ Less → (k : ℕ) → k < length view → compare_is_eq (against ikey class (get_or view k none)) ≡ false
    apart q k m =
        elim (dec_lt k i) [
          | yes n ↦ not_equal (f k n)
          | no n ↦
              ap compare_is_eq (all_above view (good-parts cells view s.good).1 ikey class (class-small key (8 * shifts)) i k (omega arith) m
              (compared ∙ ap order_of q))
        ]

    pub scan-less : r ≡ Less → not_found i ≡ answer
    scan-less q =
        outcome-none
        (first-none (λ e. compare_is_eq (against ikey class e)) none view (apart q))
        (first-at (λ e. is_less (against ikey class e)) none view i (omega (arith, long)) (λ k m. not-less (f k m))
        (ap is_less (compared ∙ ap order_of q)))

    pub scan-kind : of_kind cells (get_or entries slot none) ≡ true
    scan-kind = ap (of_kind cells) (sym here)
        ∙ every-at (of_kind cells) none view (good-parts cells view s.good).0 i (omega (arith, long))

-- ---- what is refused, and in which order

module _ (word : ℕ) (key : List ℕ) (ikey shifts start : ℕ) {r : Bool} (e : r ≡ fits key ikey shifts start) where
  pub unlent-key : {x : Answer} → not r ≡ true → x ≡ refused Key (given_back word ikey shifts start)
      → x ≡ unlent_said word key ikey shifts start
  unfolding unlent_said
  unlent-key q u = u ∙ rw (← e, not-true r q)

  pub unlent-memory : {x : Answer} → not r ≡ false → x ≡ refused Memory (given_back word ikey shifts start)
      → x ≡ unlent_said word key ikey shifts start
  unfolding unlent_said
  unlent-memory q u = u ∙ rw (← e, not-false r q)

pub told-yes : {r b : Bool} → r ≡ b → not r ≡ false → b ≡ true
told-yes {r} e q = sym e ∙ not-false r q

module _ (word : ℕ) (entries : List Entry) (cells bytes key : List ℕ) (ikey shifts start : ℕ) {g : Bool}
    (eg : g ≡ good_entries cells (entries_in_order word entries)) where
  abbrev among : Answer
  among = lent_said word entries cells bytes key ikey shifts start

  pub lent-bad : {x : Answer} → not g ≡ true → x ≡ refused Node (given_back word ikey shifts start) → x ≡ among
  unfolding lent_said
  lent-bad q u = u ∙ rw (← eg, not-true g q)

  module _ (qg : not g ≡ false) {f : Bool} (ef : f ≡ fits key ikey shifts start) where
    pub lent_key : {x : Answer} → not f ≡ true → x ≡ refused Key (given_back word ikey shifts start) → x ≡ among
    unfolding lent_said
    lent_key q u = u ∙ rw (← eg, not-false g qg, ← ef, not-true f q)

    pub lent-searchable : not f ≡ false → valid_word 15 word ≡ true → lent_right cells bytes ≡ true
        → Searchable word entries cells bytes key ikey shifts start
    lent-searchable q v l = record { word-valid = v; lent = l; good = told-yes eg qg; fit = told-yes ef q }

    pub lent-outcome : {x : List ℕ} → not f ≡ false
        → x ≡ outcome word entries cells bytes key ikey (class_at key (8 * shifts)) start → accepted x ≡ among
    unfolding lent_said
    lent-outcome q e = ap accepted e ∙ rw (← eg, not-false g qg, ← ef, not-false f q)

module _ (word : ℕ) (entries : List Entry) (cells bytes key : List ℕ) (ikey shifts start : ℕ) {v : Bool} (ev : v ≡ valid_word 15 word) where
  abbrev said : Answer
  said = search_said word entries cells bytes key ikey shifts start

  pub said-word : {x : Answer} → not v ≡ true → x ≡ refused Node (given_back word ikey shifts start) → x ≡ said
  unfolding search_said
  said-word q u = u ∙ rw (← ev, not-true v q)

  module _ (qv : not v ≡ false) {l : Bool} (el : l ≡ lent_right cells bytes) {x : Answer} where
    pub said-unlent : not l ≡ true → x ≡ unlent_said word key ikey shifts start → x ≡ said
    unfolding search_said unlent_said
    said-unlent q e = e ∙ rw (← ev, not-false v qv, ← el, not-true l q)

    pub said-lent : not l ≡ false → x ≡ lent_said word entries cells bytes key ikey shifts start → x ≡ said
    unfolding search_said lent_said
    said-lent q e = e ∙ rw (← ev, not-false v qv, ← el, not-false l q)

pub ruleset searches = (
  rules,
  met-layer,
  met-short,
  met-found,
  met-conflict,
  unlent-key,
  unlent-memory,
)
