-- To the k-th entry: a law for each way in which a step of the walk returns. Assumes nothing.
use Prim.Native.Nat.{ℕ, zero, suc, ◌+◌, ◌*◌, ◌-◌, ◌%◌, ◌≤◌, ◌<◌, min}
use mathlib.Core.Path.{◌≡◌, refl, sym, ap, ◌∙◌}
use mathlib.Core.List.{List, [], ◌∷◌, ◌++◌, map}
use native.Mathlib.Decide.{dec_lt}
use native.Mathlib.Numerals.{add-one}
use native.Mathlib.Omega.{arith}
use lib.ListN.{length, get_or, drop, length-append, length-take, length-drop, drop_of_length-le, get_or-append}
use lib.Seq.{drop-cons, get_or-append-add}
use borrow.Author.Tests.{lt-ltb, le-ltb, eq-eqb, ne_eqb}
use Rattle.bank.specs.Bank.{slot_at}
use Rattle.order.specs.Lists.{flattened}
use Rattle.leaf_entries.specs.declared.Entry.{Entry}
use Rattle.leaf.specs.Leaf.{none, slots_of}
use Rattle.arena.specs.Parts.{part}
use Rattle.arena.specs.Layout.{node_start, word_at}
use Rattle.arena.proofs.Words.{part_at}
use Rattle.forest.specs.Nodes.{entry_at, entries_at, children_at}
use Rattle.forest.specs.Trees.{Key, Ref, seen_as}
use Rattle.forest.specs.Walk.{height_at}
use Rattle.model.specs.declared.Reached.{Reached}
use Rattle.model.specs.declared.Reached.TheVariants.{Here, Beyond}
use Rattle.model.specs.Listed.{cells_of, cells_of_leaf, cells_of_node, cells_of_one, cells_of_layer, reach}
use Rattle.seek.specs.Below.{layers_below, cells_at}
use Rattle.seek.proofs.InUse.{entries-length, entry_here}
use Rattle.seek.proofs.Down.{downs}

-- ---- how many children there are, and each of them

module _ (nodes : List ℕ) (n : ℕ) where
  children-length : length (children_at nodes n) ≡ min (word_at nodes n 1 + 1) (length nodes - (2 + n * 47 + 17))
  unfolding children_at part
  children-length = simp (length-take, length-drop)

  pub children-beyond : length nodes ≤ 11987 → 255 ≤ n → 0 ≡ length (children_at nodes n)
  children-beyond h l = omega (arith, children-length)

  pub children-none : length nodes ≤ 2 + n * 47 + 17 → 0 ≡ length (children_at nodes n)
  children-none l = omega (arith, children-length)

  pub children-all : get_or nodes (2 + n * 47 + 1) 0 < length nodes - (2 + n * 47 + 17)
      → get_or nodes (2 + n * 47 + 1) 0 + 1 ≡ length (children_at nodes n)
  children-all l = omega (arith, children-length)

  pub children-room : length nodes - (2 + n * 47 + 17) ≤ get_or nodes (2 + n * 47 + 1) 0
      → length nodes - (2 + n * 47 + 17) ≡ length (children_at nodes n)
  children-room l = omega (arith, children-length)

  module _ (i : ℕ) where
    pub child-read : i ≤ word_at nodes n 1 → get_or nodes (2 + n * 47 + 17 + i) 0 ≡ get_or (children_at nodes n) i 0
    unfolding children_at
    child-read l = sym (part_at nodes (node_start n + 17) (word_at nodes n 1 + 1) i (omega arith))

    module _ {many : ℕ} (e : many ≡ length (children_at nodes n)) (l : i < many) where
      pub child-room : 2 + n * 47 + 17 + i < length nodes
      child-room = omega (arith, children-length)

      pub child-counted : i ≤ word_at nodes n 1
      child-counted = omega (arith, children-length)

-- ---- one list of cells behind another

module _ (k : ℕ) (xs : List ℕ) where
  here_in : (ys : List ℕ) → k < length xs → reach k (xs ++ ys) ≡ reach k xs
  unfolding reach
  here_in ys l =
      rw (length-append xs ys, lt-ltb k (length xs + length ys) (omega arith), lt-ltb k (length xs) l, get_or-append xs ys 0 k l)

  behind : (ys : List ℕ) → length xs ≤ k → reach k (xs ++ ys) ≡ reach (k - length xs) ys
  unfolding reach
  behind ys l =
      elim (dec_lt (k - length xs) (length ys)) [
        | yes h ↦
            rw (length-append xs ys, lt-ltb k (length xs + length ys) (omega arith), lt-ltb (k - length xs) (length ys) h)
            (ap Here
            (ap (λ (j : ℕ). get_or (xs ++ ys) j 0) (let z : k ≡ length xs + (k - length xs) = omega arith in z)
            ∙ get_or-append-add xs ys (k - length xs) 0))
        | no h ↦
            rw (length-append xs ys, le-ltb k (length xs + length ys) (omega arith), le-ltb (k - length xs) (length ys) (omega arith))
            (ap Beyond (let z : k - (length xs + length ys) ≡ k - length xs - length ys = omega arith in z))
      ]

  within : k < length xs → reach k xs ≡ Here (get_or xs k 0)
  unfolding reach
  within l = rw (lt-ltb k (length xs) l)

  past : length xs ≤ k → reach k xs ≡ Beyond (k - length xs)
  unfolding reach
  past l = rw (le-ltb k (length xs) l)

  module _ (ys : List ℕ) {r : Reached} (e : r ≡ reach k xs) where
    join-here : {c : ℕ} → r ≡ Here c → reach k (xs ++ ys) ≡ Here c
    join-here {c} q =
        elim (dec_lt k (length xs)) [
          | yes l ↦ here_in ys l ∙ sym e ∙ q
          | no l ↦
              let p : reach k xs ≡ Beyond (k - length xs) = past (omega arith) in
              absurd (let z : ◌≡◌ {A = ℕ} 0 1 = cc in omega arith)
        ]

    join-on : {more : ℕ} → r ≡ Beyond more → reach k (xs ++ ys) ≡ reach more ys
    join-on {more} q =
        elim (dec_lt k (length xs)) [
          | yes l ↦
              let p : reach k xs ≡ Here (get_or xs k 0) = within l in
              absurd (let z : ◌≡◌ {A = ℕ} 0 1 = cc in omega arith)
          | no l ↦
              let p : reach k xs ≡ Beyond (k - length xs) = past (omega arith) in
              let z : k - length xs ≡ more = cc in
              behind ys (omega arith) ∙ ap (λ (j : ℕ). reach j ys) z
        ]

pub none_left : (k : ℕ) → reach k [] ≡ Beyond k
unfolding reach
none_left k = rw (le-ltb k 0 (omega arith)) (ap Beyond (let z : k - 0 ≡ k = omega arith in z))

-- ---- lists of cells one after another

split : {A : Type 0} (cells : A → List ℕ) (xs : List A) (d : A) (i : ℕ) → i < length xs
    → flattened cells (drop i xs) ≡ cells (get_or xs i d) ++ flattened cells (drop (i + 1) xs)
split cells xs d i l = rw (add-one i, drop-cons xs i d l)

module _ {A : Type 0} (cells : A → List ℕ) (xs : List A) (d : A) (i left : ℕ) {total : Reached}
    (inv : total ≡ reach left (flattened cells (drop i xs))) where
  walk_here : i < length xs → {r : Reached} → r ≡ reach left (cells (get_or xs i d)) → {c : ℕ} → r ≡ Here c → Here c ≡ total
  walk_here l e q =
      sym (inv ∙ ap (reach left) (split cells xs d i l) ∙ join-here left (cells (get_or xs i d)) (flattened cells (drop (i + 1) xs)) e q)

  walk-on : i < length xs → {r : Reached} → r ≡ reach left (cells (get_or xs i d)) → {more : ℕ} → r ≡ Beyond more
      → total ≡ reach more (flattened cells (drop (i + 1) xs))
  walk-on l e q =
      inv ∙ ap (reach left) (split cells xs d i l) ∙ join-on left (cells (get_or xs i d)) (flattened cells (drop (i + 1) xs)) e q

  walk_end : length xs ≤ i → Beyond left ≡ total
  walk_end l = sym (inv ∙ ap (λ (ys : List A). reach left (flattened cells ys)) (drop_of_length-le xs l) ∙ none_left left)

-- ---- a node

module _ (below : ℕ → List ℕ) (nodes : List ℕ) (height n k : ℕ) where
  pub node-leaf : height ≡ 0 → {r : Reached} → r ≡ reach k (cells_of_leaf below nodes n)
      → r ≡ reach k (cells_of_node below nodes height n)
  unfolding cells_of_node
  node-leaf h e = rw h e

  pub node-start : (height ≡ 0 → ⊥) → reach k (cells_of_node below nodes height n)
      ≡ reach k (flattened (cells_of_node below nodes (height - 1)) (drop 0 (children_at nodes n)))
  unfolding cells_of_node
  node-start h = ap (λ (m : ℕ). reach k (cells_of_node below nodes m n)) (let z : height ≡ suc (height - 1) = omega arith in z)

module _ (below : ℕ → List ℕ) (nodes : List ℕ) (h n i left : ℕ) {total : Reached}
    (inv : total ≡ reach left (flattened (cells_of_node below nodes h) (drop i (children_at nodes n)))) {many : ℕ}
    (em : many ≡ length (children_at nodes n)) where
  module _ (l : i < many) {child : ℕ} (ec : child ≡ get_or (children_at nodes n) i 0) {r : Reached}
      (er : r ≡ reach left (cells_of_node below nodes h child)) where
    told : r ≡ reach left (cells_of_node below nodes h (get_or (children_at nodes n) i 0))
    told = er ∙ ap (λ (x : ℕ). reach left (cells_of_node below nodes h x)) ec

    pub node-here : {c : ℕ} → r ≡ Here c → Here c ≡ total
    node-here q = walk_here (cells_of_node below nodes h) (children_at nodes n) 0 i left inv (omega arith) told q

    pub node-on : {more : ℕ} → r ≡ Beyond more
        → total ≡ reach more (flattened (cells_of_node below nodes h) (drop (i + 1) (children_at nodes n)))
    node-on q = walk-on (cells_of_node below nodes h) (children_at nodes n) 0 i left inv (omega arith) told q

  pub node_end : many ≤ i → Beyond left ≡ total
  node_end l = walk_end (cells_of_node below nodes h) (children_at nodes n) 0 i left inv (omega arith)

-- ---- a leaf

flattened-seen : (below : ℕ → List ℕ) (es : List Entry)
    → flattened (λ (e : Key × Ref). cells_of below e.1) (map seen_as es) ≡ flattened (cells_at below) es
unfolding cells_at
flattened-seen below [] = refl
flattened-seen below (e ∷ es) = ap (λ (ys : List ℕ). cells_at below e ++ ys) (flattened-seen below es)

module _ (below : ℕ → List ℕ) (nodes : List ℕ) (n k : ℕ) where
  pub leaf-start : reach k (cells_of_leaf below nodes n) ≡ reach k (flattened (cells_at below) (drop 0 (entries_at nodes n)))
  unfolding cells_of_leaf
  leaf-start = ap (reach k) (flattened-seen below (entries_at nodes n))

module _ (below : ℕ → List ℕ) (nodes : List ℕ) (n i left : ℕ) {total : Reached}
    (inv : total ≡ reach left (flattened (cells_at below) (drop i (entries_at nodes n)))) {word size : ℕ} (w : word ≡ word_at nodes n 1)
    (z : size ≡ word % 16) where
  module _ (l : i < size) {slot : ℕ} (s : slot ≡ slot_at i (slots_of word)) {e : Entry}
      (d : e ≡ entry_at nodes n slot) {r : Reached} (er : r ≡ reach left (cells_at below e)) where
    said : r ≡ reach left (cells_at below (get_or (entries_at nodes n) i none))
    said = er ∙ ap (λ (x : Entry). reach left (cells_at below x)) (d ∙ sym (entry_here nodes n word w i (omega arith) s))

    pub leaf-here : {c : ℕ} → r ≡ Here c → Here c ≡ total
    leaf-here q = walk_here (cells_at below) (entries_at nodes n) none i left inv (omega (arith, entries-length nodes n word w)) said q

    pub leaf-on : {more : ℕ} → r ≡ Beyond more → total ≡ reach more (flattened (cells_at below) (drop (i + 1) (entries_at nodes n)))
    leaf-on q = walk-on (cells_at below) (entries_at nodes n) none i left inv (omega (arith, entries-length nodes n word w)) said q

  pub leaf-done : size ≤ i → Beyond left ≡ total
  leaf-done l = walk_end (cells_at below) (entries_at nodes n) none i left inv (omega (arith, entries-length nodes n word w))

-- ---- an entry

module _ (nodes : List ℕ) (links : ℕ) (e : Entry) (k : ℕ) where
  module _ (c : e.class ≡ 10) where
    pub entry-last : links ≡ 31 → Beyond k ≡ reach k (cells_at (layers_below (31 - links) nodes) e)
    unfolding cells_at seen_as layers_below
    entry-last q = rw (eq-eqb e.class 10 c, q) (sym (none_left k))

    pub entry-down : links ≤ 31 → (links ≡ 31 → ⊥) → {r : Reached}
        → r ≡ reach k (cells_of_layer (31 - (links + 1)) nodes e.at)
        → r ≡ reach k (cells_at (layers_below (31 - links) nodes) e)
    unfolding cells_at seen_as layers_below
    entry-down l q er = let z : 31 - links ≡ suc (31 - (links + 1)) = omega arith in rw (eq-eqb e.class 10 c, z) er

  module _ (c : e.class ≡ 10 → ⊥) where
    pub entry-cell : k ≡ 0 → Here e.at ≡ reach k (cells_at (layers_below (31 - links) nodes) e)
    unfolding cells_at seen_as
    entry-cell q = rw (ne_eqb e.class 10 c, q) (sym (within 0 (e.at ∷ []) (omega arith)))

    pub entry_past : (k ≡ 0 → ⊥) → Beyond (k - 1) ≡ reach k (cells_at (layers_below (31 - links) nodes) e)
    unfolding cells_at seen_as
    entry_past q = rw (ne_eqb e.class 10 c) (sym (past k (e.at ∷ []) (omega arith)))

-- ---- a layer

layer-one : (l : ℕ) (nodes : List ℕ) (root : ℕ)
    → cells_of_node (layers_below l nodes) nodes (height_at nodes 255 root) root ≡ cells_of_layer l nodes root
unfolding layers_below cells_of_layer cells_of_one
layer-one zero nodes root = refl
layer-one (suc l) nodes root = refl

pub layer-down : (nodes : List ℕ) (l root k : ℕ) {height : ℕ} → height ≡ height_at nodes 255 root → {r : Reached}
    → r ≡ reach k (cells_of_node (layers_below l nodes) nodes height root) → r ≡ reach k (cells_of_layer l nodes root)
layer-down nodes l root k eh er =
    er ∙ ap (λ (h : ℕ). reach k (cells_of_node (layers_below l nodes) nodes h root)) eh ∙ ap (reach k) (layer-one l nodes root)

pub ruleset reaches = (
  downs,
  children-beyond,
  children-none,
  children-all,
  children-room,
  child-read,
  child-room,
  child-counted,
  node-leaf,
  node-start,
  node-here,
  node-on,
  node_end,
  leaf-start,
  leaf-here,
  leaf-on,
  leaf-done,
  entry-last,
  entry-down,
  entry-cell,
  entry_past,
  layer-down,
)
