-- A law for each way in which a step of the walk returns, and for the turns of its loops. Assumes nothing.
use Prim.Native.Nat.{ℕ, zero, suc, ◌+◌, ◌*◌, ◌-◌, ◌%◌, ◌≤◌, ◌<◌}
use mathlib.Core.Path.{◌≡◌, refl, sym, ap, ◌∙◌}
use mathlib.Core.List.{List, [], ◌∷◌, ◌++◌, map, foldl-append}
use native.Mathlib.Numerals.{add-one}
use native.Mathlib.Omega.{arith}
use borrow.Author.Rules.{rules}
use borrow.Author.Tests.{lt-ltb, le-ltb, eq-eqb, ne_eqb}
use lib.ListN.{length, get_or, set, drop, drop_of_length-le}
use lib.Seq.{drop-cons}
use Rattle.bank.specs.Bank.{slot_at}
use Rattle.order.specs.Lists.{flattened}
use Rattle.leaf_entries.specs.declared.Entry.{Entry}
use Rattle.leaf.specs.Leaf.{none, slots_of}
use Rattle.arena.specs.Layout.{node_start, word_at}
use Rattle.forest.specs.Nodes.{entry_at, entries_at, children_at}
use Rattle.forest.specs.Trees.{Key, Ref, seen_as}
use Rattle.forest.specs.Walk.{height_at}
use Rattle.model.specs.Listed.{cells_of, cells_of_leaf, cells_of_node, cells_of_one, cells_of_layer}
use Rattle.seek.specs.Below.{layers_below, cells_at}
use Rattle.seek.proofs.InUse.{entries-length, entry_here}
use Rattle.seek.proofs.Reaches.{child-room, child-counted}
use Rattle.seek.proofs.Down.{downs}
use Rattle.index_listed.specs.Noted.{noted, noted_all}

-- a row of numbers, and the place where the next goes
abbrev Row : Type 0
Row = List ℕ × ℕ

-- ---- one number

module _ (order : List ℕ) (at c : ℕ) where
  pub note-one : at < length order → {o : List ℕ} → o ≡ set order at c → ◌≡◌ {A = Row} (o, at + 1) (noted (order, at) c)
  unfolding noted
  note-one l e = rw (lt-ltb at (length order) l, e)

  pub note-none : length order ≤ at → ◌≡◌ {A = Row} (order, at) (noted (order, at) c)
  unfolding noted
  note-none l = rw (le-ltb at (length order) l)

-- ---- lists of cells one after another

split : {A : Type 0} (cells : A → List ℕ) (xs : List A) (d : A) (i : ℕ) → i < length xs
    → flattened cells (drop i xs) ≡ cells (get_or xs i d) ++ flattened cells (drop (i + 1) xs)
split cells xs d i l = rw (add-one i, drop-cons xs i d l)

module _ {A : Type 0} (cells : A → List ℕ) (xs : List A) (d : A) (i : ℕ) (p : Row) {total : Row}
    (inv : noted_all p (flattened cells (drop i xs)) ≡ total) where
  walk-on : i < length xs → {q : Row} → q ≡ noted_all p (cells (get_or xs i d)) → noted_all q (flattened cells (drop (i + 1) xs)) ≡ total
  walk-on l e =
      ap (λ (r : Row). noted_all r (flattened cells (drop (i + 1) xs))) e
      ∙ sym (foldl-append noted p (cells (get_or xs i d)) (flattened cells (drop (i + 1) xs)))
      ∙ ap (noted_all p) (sym (split cells xs d i l))
      ∙ inv

  walk_end : length xs ≤ i → p ≡ total
  walk_end l = sym (ap (λ (ys : List A). noted_all p (flattened cells ys)) (drop_of_length-le xs l)) ∙ inv

-- ---- a node

module _ (below : ℕ → List ℕ) (nodes : List ℕ) (height n : ℕ) (p : Row) where
  pub list-leaf : height ≡ 0 → {r : Row} → r ≡ noted_all p (cells_of_leaf below nodes n) → r ≡ noted_all p (cells_of_node below nodes height n)
  unfolding cells_of_node
  list-leaf h e = rw h e

  pub list-start : (height ≡ 0 → ⊥)
      → noted_all p (flattened (cells_of_node below nodes (height - 1)) (drop 0 (children_at nodes n))) ≡ noted_all p
      (cells_of_node below nodes height n)
  unfolding cells_of_node
  list-start h = sym (ap (λ (m : ℕ). noted_all p (cells_of_node below nodes m n)) (let z : height ≡ suc (height - 1) = omega arith in z))

module _ (below : ℕ → List ℕ) (nodes : List ℕ) (h n i : ℕ) (p : Row) {total : Row}
    (inv : noted_all p (flattened (cells_of_node below nodes h) (drop i (children_at nodes n))) ≡ total) {many : ℕ}
    (em : many ≡ length (children_at nodes n)) where
  pub list-next : i < many → {child : ℕ} → child ≡ get_or (children_at nodes n) i 0 → {q : Row}
      → q ≡ noted_all p (cells_of_node below nodes h child)
      → noted_all q (flattened (cells_of_node below nodes h) (drop (i + 1) (children_at nodes n))) ≡ total
  list-next l ec e =
      walk-on (cells_of_node below nodes h) (children_at nodes n) 0 i p inv (omega arith)
      (e ∙ ap (λ (x : ℕ). noted_all p (cells_of_node below nodes h x)) ec)

  pub list-last : many ≤ i → p ≡ total
  list-last l = walk_end (cells_of_node below nodes h) (children_at nodes n) 0 i p inv (omega arith)

-- ---- a leaf

flattened-seen : (below : ℕ → List ℕ) (es : List Entry)
    → flattened (λ (e : Key × Ref). cells_of below e.1) (map seen_as es) ≡ flattened (cells_at below) es
unfolding cells_at
flattened-seen below [] = refl
flattened-seen below (e ∷ es) = ap (λ (ys : List ℕ). cells_at below e ++ ys) (flattened-seen below es)

pub leaf-start : (below : ℕ → List ℕ) (nodes : List ℕ) (n : ℕ) (p : Row)
    → noted_all p (flattened (cells_at below) (drop 0 (entries_at nodes n))) ≡ noted_all p (cells_of_leaf below nodes n)
unfolding cells_of_leaf
leaf-start below nodes n p = sym (ap (noted_all p) (flattened-seen below (entries_at nodes n)))

module _ (below : ℕ → List ℕ) (nodes : List ℕ) (n i : ℕ) (p : Row) {total : Row}
    (inv : noted_all p (flattened (cells_at below) (drop i (entries_at nodes n))) ≡ total) {word : ℕ} (w : word ≡ word_at nodes n 1) where
  pub leaf-next : i < word % 16 → {slot : ℕ} → slot ≡ slot_at i (slots_of word) → {e : Entry} → e ≡ entry_at nodes n slot
      → {q : Row} → q ≡ noted_all p (cells_at below e) → noted_all q (flattened (cells_at below) (drop (i + 1) (entries_at nodes n))) ≡ total
  leaf-next l s d er =
      walk-on (cells_at below) (entries_at nodes n) none i p inv (omega (arith, entries-length nodes n word w))
      (er ∙ ap (λ (x : Entry). noted_all p (cells_at below x)) (d ∙ sym (entry_here nodes n word w i l s)))

  pub leaf_last : word % 16 ≤ i → p ≡ total
  leaf_last l = walk_end (cells_at below) (entries_at nodes n) none i p inv (omega (arith, entries-length nodes n word w))

-- ---- an entry

module _ (nodes : List ℕ) (links : ℕ) (e : Entry) (p : Row) where
  module _ (c : e.class ≡ 10) where
    pub entry-last : links ≡ 31 → p ≡ noted_all p (cells_at (layers_below (31 - links) nodes) e)
    unfolding cells_at seen_as layers_below
    entry-last q = rw (eq-eqb e.class 10 c, q)

    pub entry-down : links ≤ 31 → (links ≡ 31 → ⊥) → {r : Row} → r ≡ noted_all p (cells_of_layer (31 - (links + 1)) nodes e.at)
        → r ≡ noted_all p (cells_at (layers_below (31 - links) nodes) e)
    unfolding cells_at seen_as layers_below
    entry-down l q er = let z : 31 - links ≡ suc (31 - (links + 1)) = omega arith in rw (eq-eqb e.class 10 c, z) er

  pub entry-cell : (e.class ≡ 10 → ⊥) → {r : Row} → r ≡ noted p e.at → r ≡ noted_all p (cells_at (layers_below (31 - links) nodes) e)
  unfolding cells_at seen_as
  entry-cell c er = rw (ne_eqb e.class 10 c) er

-- ---- a layer

layer-one : (l : ℕ) (nodes : List ℕ) (root : ℕ)
    → cells_of_node (layers_below l nodes) nodes (height_at nodes 255 root) root ≡ cells_of_layer l nodes root
unfolding layers_below cells_of_layer cells_of_one
layer-one zero nodes root = refl
layer-one (suc l) nodes root = refl

pub layer-down : (nodes : List ℕ) (l root : ℕ) (p : Row) {height : ℕ} → height ≡ height_at nodes 255 root → {r : Row}
    → r ≡ noted_all p (cells_of_node (layers_below l nodes) nodes height root) → r ≡ noted_all p (cells_of_layer l nodes root)
layer-down nodes l root p eh er =
    er ∙ ap (λ (h : ℕ). noted_all p (cells_of_node (layers_below l nodes) nodes h root)) eh ∙ ap (noted_all p) (layer-one l nodes root)

pub ruleset notes = (
  downs,
  child-room,
  child-counted,
  list-leaf,
  list-start,
  list-next,
  list-last,
  leaf-start,
  leaf-next,
  leaf_last,
  entry-last,
  entry-down,
  entry-cell,
  layer-down,
)
