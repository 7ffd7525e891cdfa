-- A law for each way in which a call on a leaf returns. Assumes nothing.
use Prim.Native.Nat.{ℕ, suc, ◌+◌, ◌-◌, ◌%◌, ◌/◌, ◌≤◌, ◌<◌}
use mathlib.Core.Path.{◌≡◌, refl, sym, ap, ◌∙◌}
use mathlib.Core.Bool.{Bool, true, false}
use mathlib.Core.List.{List, [], ◌∷◌, ◌++◌, map}
use native.Mathlib.Decide.{ℕ_discrete}
use native.Mathlib.Numerals.{add-one}
use native.Mathlib.Omega.{arith}
use lib.ListN.{get_or-append, length, get_or, set, take, drop, replicate, length-append, length-map, length-drop}
use lib.Seq.{length-take-le, get_or-take, get_or-drop, get_or-append-add, get_or_at, get_or-set_same, get_or-set_other, take-suc, set_at, append_snoc}
use lib.Seq.{ext_get_or}
use borrow.Author.Count.{below_more}
use borrow.Author.Rules.{rules}
use Rattle.bank.specs.Bank.{slot_at}
use Rattle.nibbles.proofs.Nibbles.{length-nibbles}
use Rattle.permuter.specs.Words.{made_sorted}
use Rattle.leaf_entries.specs.declared.Entry.{Entry}
use Rattle.leaf.specs.Leaf.{none, rank, slots_of, less}
use Rattle.leaf.specs.Search.{place_greater}
use Rattle.leaf.proofs.Lists.{get_d_map, first-at, first-none, map-append}
use Rattle.lent_nodes.specs.declared.inside.Leaf.{Leaf}
use Rattle.arena.specs.Parts.{zeros}
use Rattle.arena.specs.Layout.{word_at}
use Rattle.forest.specs.Nodes.{entry_at, entries_at}
use Rattle.forest.proofs.InUse.{entries-length, entry_here}
use Rattle.model.specs.Leaves.{leaf_with, fifteen_at}

-- ---- the place where an entry belongs

module _ (nodes : List ℕ) (k word : ℕ) {size : ℕ} (w : word ≡ word_at nodes k 1) (z : size ≡ word % 16) where
  module _ (e : Entry) (i : ℕ) (f : (j : ℕ) → j < i → less e (get_or (entries_at nodes k) j none) ≡ false) where
    module _ {slot : ℕ} {d : Entry} {r : Bool} (l : i < size) (es : slot ≡ slot_at i (slots_of word)) (ed : d ≡ entry_at nodes k slot)
        (er : r ≡ less e d) where
      here : less e (get_or (entries_at nodes k) i none) ≡ r
      here = ap (less e) (entry_here nodes k word w i (omega arith) es ∙ sym ed) ∙ sym er

      pub greater-here : r ≡ true → i ≡ place_greater e.ikey (rank e) (entries_at nodes k)
      greater-here t =
          first-at (less e) none (entries_at nodes k) i (omega (arith, entries-length nodes k word w)) f (here ∙ t)

      pub greater_next : r ≡ false → (j : ℕ) → j < i + 1 → less e (get_or (entries_at nodes k) j none) ≡ false
      greater_next t = below_more _ i f (here ∙ t)

    pub greater-none : size ≤ i → size ≡ place_greater e.ikey (rank e) (entries_at nodes k)
    greater-none l =
        z ∙ sym (entries-length nodes k word w)
        ∙ first-none (less e) none (entries_at nodes k) (λ j h. f j (omega (arith, entries-length nodes k word w)))

-- ---- columns of a leaf

-- one field of the first i entries from a place on, and zeros
unfoldable pub column : (Entry → ℕ) → List Entry → ℕ → ℕ → List ℕ
column f es from i = map f (take i (drop from es)) ++ zeros (15 - i)

module _ (f : Entry → ℕ) (es : List Entry) (from : ℕ) where
  pub column-none : replicate 15 0 ≡ column f es from 0
  unfolding column
  column-none = refl

  pub column-more : (i : ℕ) → i < 15 → from + i < length es
      → set (column f es from i) i (f (get_or es (from + i) none)) ≡ column f es from (i + 1)
  unfolding column
  column-more i l h =
      let z : 15 - i ≡ suc (15 - (i + 1)) = omega arith in
      let long : length (map f (take i (drop from es))) ≡ i = length-map (take i (drop from es)) f
      ∙ length-take-le i (drop from es) (let y : i ≤ length (drop from es) = rw length-drop (omega arith) in y) in
      let t : take (i + 1) (drop from es) ≡ take i (drop from es) ++ (get_or es (from + i) none ∷ []) =
      ap (λ (n : ℕ). take n (drop from es)) (add-one i)
      ∙ take-suc (drop from es) i none (let y : i < length (drop from es) = rw length-drop (omega arith) in y)
      ∙ ap (λ (x : Entry). take i (drop from es) ++ (x ∷ [])) (get_or-drop from es i none) in
      rw (z, t, map-append)
      (set_at (map f (take i (drop from es))) 0 (zeros (15 - (i + 1))) (f (get_or es (from + i) none)) i long
      ∙ sym (append_snoc (map f (take i (drop from es))) (f (get_or es (from + i) none)) (zeros (15 - (i + 1)))))

-- each of the three columns with one entry more
module _ (es : List Entry) (from n i : ℕ) {a : List ℕ} (long : length es ≡ 16) (few : n ≤ 15) (fits : from + n ≤ 16) (l : i < n) where
  pub ikeys-more : a ≡ column (λ e. e.ikey) es from i → set a i (get_or es (from + i) none).ikey ≡ column (λ e. e.ikey) es from (i + 1)
  ikeys-more q = rw q (column-more (λ e. e.ikey) es from i (omega arith) (omega arith))

  pub classes-more : a ≡ column (λ e. e.class) es from i
      → set a i (get_or es (from + i) none).class ≡ column (λ e. e.class) es from (i + 1)
  classes-more q = rw q (column-more (λ e. e.class) es from i (omega arith) (omega arith))

  pub refs-more : a ≡ column (λ e. e.at) es from i → set a i (get_or es (from + i) none).at ≡ column (λ e. e.at) es from (i + 1)
  refs-more q = rw q (column-more (λ e. e.at) es from i (omega arith) (omega arith))

pub leaf-made : (es : List Entry) (from n i : ℕ) {word : ℕ} {a b d : List ℕ} → length es ≡ 16 → from + n ≤ 16 → i ≤ n → n ≤ i
    → a ≡ column (λ e. e.ikey) es from i → b ≡ column (λ e. e.class) es from i → d ≡ column (λ e. e.at) es from i
    → word ≡ get_or (made_sorted 15 n).values 0 0
    → ◌≡◌ {A = Leaf} (record { word = word; ikeys = a; classes = b; refs = d }) (leaf_with (take n (drop from es)))
unfolding column leaf_with
leaf-made es from n i h l p q ea eb ed ew =
    let z : i ≡ n = omega arith in
    let y : length (take n (drop from es)) ≡ n =
    length-take-le n (drop from es) (let x : n ≤ length (drop from es) = rw length-drop (omega arith) in x) in
    rw (y, ea, eb, ed, ew, z)

-- ---- sixteen entries

module _ (nodes : List ℕ) (k p : ℕ) (e : Entry) where
  -- the entries at all fifteen positions and one more at a position
  unfoldable pub with-one : List Entry
  with-one = take p (fifteen_at nodes k) ++ e ∷ drop p (fifteen_at nodes k)

module _ (nodes : List ℕ) (k p : ℕ) (e : Entry) (few : p ≤ 15) where
  fifteen : length (fifteen_at nodes k) ≡ 15
  unfolding fifteen_at
  fifteen = length-map (slots_of (word_at nodes k 1)).slots (entry_at nodes k) ∙ length-nibbles 15 (word_at nodes k 1 / 16)

  fifteen-at : (i : ℕ) {word slot : ℕ} → word ≡ word_at nodes k 1 → i < 15 → slot ≡ slot_at i (slots_of word)
      → get_or (fifteen_at nodes k) i none ≡ entry_at nodes k slot
  unfolding fifteen_at
  fifteen-at i {word} {slot} w l s =
      get_d_map (entry_at nodes k) (slots_of (word_at nodes k 1)).slots i 0 none
      (let z : i < length (slots_of (word_at nodes k 1)).slots = rw length-nibbles l in z)
      ∙ ap (entry_at nodes k) (sym (s ∙ ap (λ (x : ℕ). slot_at i (slots_of x)) w))

  front : length (take p (fifteen_at nodes k)) ≡ p
  front = length-take-le p (fifteen_at nodes k) (omega (arith, fifteen))

  sixteen-long : length (with-one nodes k p e) ≡ 16
  unfolding with-one
  sixteen-long = simp (length-append, length-drop) (omega (arith, front, fifteen))

  -- what stands at each place
  module _ (i : ℕ) {word slot : ℕ} {d : Entry} (w : word ≡ word_at nodes k 1) where
    pub left_at : i < p → slot ≡ slot_at i (slots_of word) → d ≡ entry_at nodes k slot → d ≡ get_or (with-one nodes k p e) i none
    unfolding with-one
    left_at l s q =
        q ∙ sym (get_or-append (take p (fifteen_at nodes k)) (e ∷ drop p (fifteen_at nodes k)) none i (omega (arith, front))
        ∙ get_or-take p (fifteen_at nodes k) i none l ∙ fifteen-at i w (omega arith) s)

    pub right-at : p < i → i < 16 → slot ≡ slot_at (i - 1) (slots_of word) → d ≡ entry_at nodes k slot → d ≡ get_or (with-one nodes k p e) i none
    unfolding with-one
    right-at l h s q =
        let z : i ≡ length (take p (fifteen_at nodes k)) + suc (i - 1 - p) = omega (arith, front) in
        q ∙ sym (ap (λ (n : ℕ). get_or (take p (fifteen_at nodes k) ++ e ∷ drop p (fifteen_at nodes k)) n none) z
        ∙ get_or-append-add (take p (fifteen_at nodes k)) (e ∷ drop p (fifteen_at nodes k)) (suc (i - 1 - p)) none
        ∙ get_or-drop p (fifteen_at nodes k) (i - 1 - p) none
        ∙ ap (λ (n : ℕ). get_or (fifteen_at nodes k) n none) (let y : p + (i - 1 - p) ≡ i - 1 = omega arith in y)
        ∙ fifteen-at (i - 1) w (omega arith) s)

  pub here-at : (i : ℕ) → p ≤ i → i ≤ p → e ≡ get_or (with-one nodes k p e) i none
  unfolding with-one
  here-at i l h =
      sym (get_or_at (take p (fifteen_at nodes k)) e (drop p (fifteen_at nodes k)) none i (front ∙ (let z : p ≡ i = omega arith in z)))

  pub sixteen-done : (i : ℕ) {all : List Entry} → length all ≡ 16 → 16 ≤ i
      → ((j : ℕ) → j < i → get_or all j none ≡ get_or (with-one nodes k p e) j none)
      → all ≡ take p (fifteen_at nodes k) ++ e ∷ drop p (fifteen_at nodes k)
  unfolding with-one
  sixteen-done i h l f = ext_get_or none _ _ (h ∙ sym sixteen-long) (λ j m. f j (omega arith))

-- one place more agrees
pub agree-more : (all es : List Entry) (i : ℕ) (d : Entry) → length all ≡ 16 → i < 16
    → ((j : ℕ) → j < i → get_or all j none ≡ get_or es j none) → d ≡ get_or es i none
    → (j : ℕ) → j < i + 1 → get_or (set all i d) j none ≡ get_or es j none
agree-more all es i d w l f q j h =
    elim (ℕ_discrete j i) [
      | yes z ↦ rw z (get_or-set_same all i d none (omega arith) ∙ q)
      | no z ↦ get_or-set_other all i j d none z ∙ f j (omega arith)
    ]

pub ruleset greater = (rules, greater-here, greater_next, greater-none)

pub ruleset columns = (rules, column-none, ikeys-more, classes-more, refs-more, leaf-made)

pub ruleset sixteens = (rules, left_at, right-at, here-at, agree-more, sixteen-done)
