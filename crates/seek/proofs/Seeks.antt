-- To a key: a law for each way in which the search of a cell, and the way down the layers, returns. Assumes nothing.
use Prim.Native.Nat.{ℕ, zero, suc, ◌+◌, ◌*◌, ◌-◌, ◌/◌, ◌%◌, ◌≤◌, ◌<◌}
use mathlib.Core.Path.{◌≡◌, refl, sym, ap, ap₂, ◌∙◌, subst}
use mathlib.Core.Bool.{Bool, true, false, cond}
use mathlib.Core.List.{List}
use native.Mathlib.Decide.{dec_lt}
use native.Mathlib.Omega.{arith}
use lib.Dec.{compare_is_eq, ltb}
use lib.ListN.{length, get_or, get_or-eq_default}
use borrow.Author.Tests.{lt-ltb, le-ltb, eq-eqb, ne_eqb}
use Rattle.bank.specs.Bank.{slot_at}
use Rattle.order.specs.Bytes.{bytewise}
use Rattle.order.specs.Layer.{ikey_at, class_at}
use Rattle.std.specs.declared.cmp.Ordering.{Ordering as Ordered}
use Rattle.std.specs.declared.cmp.Ordering.TheVariants.{Less, Equal, Greater}
use Rattle.ikey.specs.Said.{order_of}
use Rattle.leaf_entries.specs.declared.Entry.{Entry}
use Rattle.leaf.specs.Leaf.{none, slots_of}
use Rattle.leaf.specs.Search.{place_equal}
use Rattle.leaf.proofs.Lists.{never}
use Rattle.arena.specs.Parts.{part}
use Rattle.arena.specs.Layout.{node_start, word_at, cell_start, mark_at}
use Rattle.arena.specs.Memory.{Memory, memory, node_count, cell_count}
use Rattle.forest.specs.Nodes.{entry_at, entries_at}
use Rattle.model.specs.declared.Met.{Met}
use Rattle.model.specs.declared.Met.TheVariants.{Stored, Conflict, Missing}
use Rattle.model.specs.Down.{leaf_in}
use Rattle.model.specs.Meet.{has_key, number_word, meet_entry, meet_leaf, meet_one, meet}
use Rattle.seek.specs.Lengths.{NodesLent, CellsLent}
use Rattle.seek.specs.Within.{Within}
use Rattle.seek.proofs.InUse.{entries-length, entry_here, in_memory}
use Rattle.seek.proofs.Down.{downs}

-- ---- a cell's key

module _ (cells bytes key : List ℕ) (c : ℕ) where
  pub key-beyond : CellsLent (length cells) (length bytes) → length cells / 2 ≤ c → false ≡ has_key cells bytes c key
  unfolding has_key
  key-beyond s l =
      let z : mark_at cells c ≡ 0 = get_or-eq_default cells 0 {n = cell_start c} (omega arith) in
      rw (ne_eqb (mark_at cells c) (length key + 1) (λ q. omega arith))

  pub key-other : (get_or cells (c * 2) 0 ≡ length key + 1 → ⊥) → false ≡ has_key cells bytes c key
  unfolding has_key
  key-other h = rw (ne_eqb (get_or cells (c * 2) 0) (length key + 1) h)

  module _ (h : get_or cells (c * 2) 0 ≡ length key + 1) {stored : List ℕ} (s : stored ≡ part bytes (c * 256) (length key))
      (r : Ordered) (o : order_of r ≡ bytewise stored key) where
    compared : compare_is_eq (order_of r) ≡ has_key cells bytes c key
    unfolding has_key
    compared = rw (eq-eqb (get_or cells (c * 2) 0) (length key + 1) h, ← s) (ap compare_is_eq o)

    pub key-less : r ≡ Less → false ≡ has_key cells bytes c key
    key-less q = rw (← compared, q)

    pub key-equal : r ≡ Equal → true ≡ has_key cells bytes c key
    key-equal q = rw (← compared, q)

    pub key-greater : r ≡ Greater → false ≡ has_key cells bytes c key
    key-greater q = rw (← compared, q)

  -- a cell that has a key is one of those lent
  pub key-lent : CellsLent (length cells) (length bytes) → {k : Bool} → k ≡ has_key cells bytes c key → k ≡ true
      → c < cell_count (length cells)
  key-lent s e t =
      elim (dec_lt c (cell_count (length cells))) [
        | yes l ↦ l
        | no l ↦ never (sym t ∙ e ∙ sym (key-beyond s (omega arith)))
      ]

-- ---- from a layer down

module _ (m : Memory) (key : List ℕ) where
  -- what is met below a link
  abbrev below : ℕ → ℕ → ℕ → ℕ → Met
  below zero = λ links holder root. Missing holder root links
  below (suc l) = meet l m key

  one : (l links holder root : ℕ) → meet l m key links holder root ≡ meet_one (below l) m key links holder root
  unfolding meet
  one zero links holder root = refl
  one (suc l) links holder root = refl

module _ (nodes cells bytes key : List ℕ) (links holder root : ℕ) {leaf p word size : ℕ}
    (el : leaf ≡ leaf_in nodes root (ikey_at key (8 * links)))
    (ep : p ≡ place_equal (ikey_at key (8 * links)) (class_at key (8 * links)) (entries_at nodes leaf))
    (w : word ≡ word_at nodes leaf 1) (z : size ≡ word % 16) where
  abbrev m : Memory
  m = memory nodes cells bytes

  opened : (l : ℕ) → meet l m key links holder root
      ≡ cond (ltb p size) (meet_entry (below m key l) m key links leaf p (get_or (entries_at nodes leaf) p none))
      (Missing holder root links)
  unfolding meet_leaf
  opened l = one m key l links holder root ∙ rw (← el, ← ep, entries-length nodes leaf word w, z)

  pub seek-none : size ≤ p → Missing holder root links ≡ meet (31 - links) (memory nodes cells bytes) key links holder root
  seek-none h = rw (opened (31 - links), le-ltb p size h)

  module _ (h : p < size) {slot : ℕ} {e : Entry} (s : slot ≡ slot_at p (slots_of word)) (d : e ≡ entry_at nodes leaf slot) where
    met : (l : ℕ) → meet l m key links holder root ≡ meet_entry (below m key l) m key links leaf p e
    met l = rw (opened l, lt-ltb p size h, entry_here nodes leaf word w p (omega arith) s, ← d)

    module _ (c : e.class ≡ 10 → ⊥) {k : Bool} (ek : k ≡ has_key cells bytes e.at key) where
      pub seek-stored : k ≡ true → Stored leaf p e.at ≡ meet (31 - links) (memory nodes cells bytes) key links holder root
      unfolding meet_entry
      seek-stored t = rw (met (31 - links), ne_eqb e.class 10 c, ← ek, t)

      pub seek-conflict : k ≡ false
          → Conflict leaf p e.at links ≡ meet (31 - links) (memory nodes cells bytes) key links holder root
      unfolding meet_entry
      seek-conflict t = rw (met (31 - links), ne_eqb e.class 10 c, ← ek, t)

    module _ (c : e.class ≡ 10) {at : ℕ} (ea : at ≡ node_start leaf + 32 + slot) where
      holds : at ≡ number_word nodes leaf p
      holds = ea ∙ ap (λ (x : ℕ). node_start leaf + 32 + x) (s ∙ ap (λ (v : ℕ). slot_at p (slots_of v)) w)

      pub seek-last : links ≡ 31 → Missing at e.at 32 ≡ meet (31 - links) (memory nodes cells bytes) key links holder root
      unfolding meet_entry
      seek-last q = rw (met (31 - links), eq-eqb e.class 10 c, q) (ap (λ (x : ℕ). Missing x e.at 32) holds)

      pub seek-down : links ≤ 31 → (links ≡ 31 → ⊥) → {r : Met}
          → r ≡ meet (31 - (links + 1)) (memory nodes cells bytes) key (links + 1) at e.at
          → r ≡ meet (31 - links) (memory nodes cells bytes) key links holder root
      unfolding meet_entry
      seek-down l q er =
          let z : 31 - links ≡ suc (31 - (links + 1)) = omega arith in
          rw (met (31 - links), eq-eqb e.class 10 c, z)
          (er
          ∙ ap₂ (λ (a b : ℕ). meet (31 - (links + 1)) m key a b e.at)
          (let y : links + 1 ≡ suc links = omega arith in y) holds)

-- ---- what it keeps within

module _ (nodes : List ℕ) (n word p : ℕ) {size : ℕ} (s : NodesLent (length nodes)) (w : word ≡ word_at nodes n 1) (z : size ≡ word % 16)
    (h : p < size) where
  pub leaf-lent : n < node_count (length nodes)
  leaf-lent = omega (arith, in_memory nodes n word w p (omega arith))

  pub leaf-few : n < 255
  leaf-few = omega (arith, in_memory nodes n word w p (omega arith))

module _ (n c : ℕ) {r : Met} (f : Within n c r) where
  pub stored-within : {leaf p cell : ℕ} → r ≡ Stored leaf p cell → (leaf < n) × (p < 15) × (cell < c)
  stored-within e = subst (λ (x : Met). Within n c x) e f

  pub conflict-within : {leaf p cell links : ℕ} → r ≡ Conflict leaf p cell links → (leaf < n) × (p < 15) × (links ≤ 31)
  conflict-within e = subst (λ (x : Met). Within n c x) e f

  pub missing-within : {holder root links : ℕ} → r ≡ Missing holder root links → links ≤ 32
  missing-within e = subst (λ (x : Met). Within n c x) e f

pub ruleset seeks = (
  downs,
  key-beyond,
  key-other,
  key-less,
  key-equal,
  key-greater,
  key-lent,
  seek-none,
  seek-stored,
  seek-conflict,
  seek-last,
  seek-down,
  leaf-lent,
  leaf-few,
)
