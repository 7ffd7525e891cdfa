-- A law for each way in which a judgement of an entry or of a leaf returns. Assumes nothing.
use Prim.Native.Nat.{ℕ, suc, ◌+◌, ◌-◌, ◌%◌, ◌≤◌, ◌<◌, Ordering}
use mathlib.Core.Path.{◌≡◌, refl, sym, ap, ◌∙◌}
use mathlib.Core.Bool.{Bool, true, false, not}
use mathlib.Core.List.{List}
use native.Mathlib.Omega.{arith}
use lib.Dec.{leb}
use lib.ListN.{length, get_or}
use borrow.Author.Count.{below_more}
use borrow.Author.Rules.{rules}
use borrow.Author.Tests.{le-leb, lt-leb, eq-eqb, ne_eqb, not-true, not-false}
use Rattle.bank.specs.Bank.{slot_at}
use Rattle.nibbles.specs.Words.{valid_word}
use Rattle.std.specs.Ordering.{is_lt}
use Rattle.std.specs.declared.cmp.Ordering.{Ordering as Ordered}
use Rattle.std.specs.declared.cmp.Ordering.TheVariants.{Less, Equal, Greater}
use Rattle.ikey.specs.Said.{order_of}
use Rattle.lent_cells.specs.Cells.{cell_right}
use Rattle.leaf_entries.specs.declared.Entry.{Entry}
use Rattle.leaf_entries.specs.Leaf.{none, is_less, less, slots_of, entries_in_order, rising, of_kind, good_entries}
use Rattle.leaf_entries.specs.Lists.{every}
use Rattle.leaf_entries.proofs.Lists.{both, every-all, every-not}
use Rattle.leaf_entries.proofs.Orders.{less-weight, rising-if, rising-not}
use Rattle.leaf_entries.proofs.Views.{length-in-order, entry-in-order}

-- ---- an entry

module _ (cells : List ℕ) (e : Entry) where
  pub kind-beyond : 10 < e.class → false ≡ of_kind cells e
  unfolding of_kind
  kind-beyond h = rw (lt-leb e.class 10 h)

  module _ (h : e.class ≤ 10) where
    pub kind-link : e.class ≡ 10 → true ≡ of_kind cells e
    unfolding of_kind
    kind-link q = rw (le-leb e.class 10 h, eq-eqb e.class 10 q)

    pub kind-cell : (e.class ≡ 10 → ⊥) → {r : Bool} → r ≡ cell_right cells e.at → r ≡ of_kind cells e
    unfolding of_kind
    kind-cell q d = rw (le-leb e.class 10 h, ne_eqb e.class 10 q) d

  -- an entry that is no link has a right cell
  pub kind-has-cell : of_kind cells e ≡ true → (e.class ≡ 10 → ⊥) → cell_right cells e.at ≡ true
  unfolding of_kind
  kind-has-cell k q = rw (ne_eqb e.class 10 q) at (both {a = leb e.class 10} k).1

-- ---- the test of a comparison

pub tested : (r : Ordered) {o : Ordering} → order_of r ≡ o → {b : Bool} → b ≡ is_lt r → b ≡ is_less o
tested r e q = q ∙ by r ∙ ap is_less e
  where
    by : (x : Ordered) → is_lt x ≡ is_less (order_of x)
    by Less = refl
    by Equal = refl
    by Greater = refl

-- ---- the entries in use, one after the other

module _ (word : ℕ) (v : valid_word 15 word ≡ true) (entries : List Entry) {size : ℕ} (s : size ≡ word % 16) where
  -- the entry in the slot at a position
  entry_here : (i : ℕ) {slot : ℕ} → i < size → slot ≡ slot_at i (slots_of word)
      → get_or (entries_in_order word entries) i none ≡ get_or entries slot none
  entry_here i l e = entry-in-order word v entries i (omega arith) e

  long : length (entries_in_order word entries) ≡ size
  long = length-in-order word v entries ∙ sym s

  module _ (cells : List ℕ) where
    module _ (i : ℕ) {slot : ℕ} {r : Bool} (l : i < size) (e : slot ≡ slot_at i (slots_of word))
        (k : r ≡ of_kind cells (get_or entries slot none)) where
      pub kinds-not : not r ≡ true → false ≡ every (of_kind cells) (entries_in_order word entries)
      kinds-not q =
          every-not (of_kind cells) none (entries_in_order word entries) i (omega (arith, long))
          (ap (of_kind cells) (entry_here i l e) ∙ sym k ∙ not-true r q)

      pub kinds-next : ((j : ℕ) → j < i → of_kind cells (get_or (entries_in_order word entries) j none) ≡ true) → not r ≡ false
          → (j : ℕ) → j < i + 1 → of_kind cells (get_or (entries_in_order word entries) j none) ≡ true
      kinds-next f q = below_more _ i f (ap (of_kind cells) (entry_here i l e) ∙ sym k ∙ not-false r q)

    pub kinds-all : (i : ℕ) → size ≤ i → ((j : ℕ) → j < i → of_kind cells (get_or (entries_in_order word entries) j none) ≡ true)
        → true ≡ every (of_kind cells) (entries_in_order word entries)
    kinds-all i l f = every-all (of_kind cells) none (entries_in_order word entries) (λ j h. f j (omega (arith, long)))

  module _ (i : ℕ) {slot next : ℕ} {r : Bool} (p : 1 ≤ i) (l : i < size) (d : slot ≡ slot_at (i - 1) (slots_of word))
      (e : next ≡ slot_at i (slots_of word)) (k : r ≡ less (get_or entries slot none) (get_or entries next none)) where
    pair-here : less (get_or (entries_in_order word entries) (i - 1) none) (get_or (entries_in_order word entries) i none) ≡ r
    pair-here = rw (entry_here (i - 1) (omega arith) d, entry_here i l e) (sym k)

    pub rising-stops : not r ≡ true → false ≡ rising (entries_in_order word entries)
    rising-stops q =
        rising-not (entries_in_order word entries) (i - 1) (omega (arith, long))
        (ap (λ (n : ℕ). less (get_or (entries_in_order word entries) (i - 1) none) (get_or (entries_in_order word entries) n none))
        (let z : suc (i - 1) ≡ i = omega arith in z)
        ∙ pair-here ∙ not-true r q)

    pub rising-goes-on : ((j : ℕ) → j < i → 1 ≤ j
        → less (get_or (entries_in_order word entries) (j - 1) none) (get_or (entries_in_order word entries) j none) ≡ true)
        → not r ≡ false → (j : ℕ) → j < i + 1 → 1 ≤ j
        → less (get_or (entries_in_order word entries) (j - 1) none) (get_or (entries_in_order word entries) j none) ≡ true
    rising-goes-on f q = below_more _ i f (λ h. pair-here ∙ not-false r q)

  pub rising-all : (i : ℕ) → size ≤ i → ((j : ℕ) → j < i → 1 ≤ j
      → less (get_or (entries_in_order word entries) (j - 1) none) (get_or (entries_in_order word entries) j none) ≡ true)
      → true ≡ rising (entries_in_order word entries)
  rising-all i l f =
      sym (rising-if (entries_in_order word entries)
      (λ j h. less-weight (get_or (entries_in_order word entries) j none) (get_or (entries_in_order word entries) (suc j) none)
      (ap (λ (n : ℕ). less (get_or (entries_in_order word entries) n none) (get_or (entries_in_order word entries) (suc j) none))
      (let z : j ≡ suc j - 1 = omega arith in z)
      ∙ f (suc j) (omega (arith, long)) (omega arith))))

-- both judgements of the entries

module _ (cells : List ℕ) (es : List Entry) where
  pub good-parts : good_entries cells es ≡ true → (every (of_kind cells) es ≡ true) × (rising es ≡ true)
  unfolding good_entries
  good-parts e = both {a = every (of_kind cells) es} e

pub ruleset judged = (rules, tested)
