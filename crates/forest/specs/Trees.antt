-- The tree of one layer, its nodes by their numbers.
use Rattle.std.specs.Prelude.{ℕ, zero, suc, ◌+◌, ◌*◌, ◌^◌, ◌≤◌, ◌<◌, ◌≡◌, cond, List, [], ◌∷◌, map, T, eqb, drop}
use Rattle.order.specs.Map.{All}
use Rattle.order.specs.Lists.{total, flattened}
use Rattle.leaf.specs.Entries.{Entry}
use Rattle.forest.specs.Nodes.{entries_at, ikeys_at, children_at, leaf_right, internode_right}

-- an ikey and a class: a length of 0 to 8, or 9 for longer
abbrev pub Key : Type 0
Key = ℕ × ℕ

-- what an entry has: a cell, or a link to the layer below by the number of its root
pub data Ref : Type 0 where
  cell link : ℕ → Ref

-- an entry as it stands in memory, seen as ikey and class with a cell or a link: class 10 is a link, for longer only
unfoldable pub seen_as : Entry → Key × Ref
seen_as e = cond (eqb e.class 10) ((e.ikey, 9), link e.at) ((e.ikey, e.class), cell e.at)

-- A tree by its height. At height 0 it is a leaf: its number, and its entries in order. Above, it is an internode: its number,
-- and its children, each beside the edge on its left. All leaves of a tree are equally deep.
abbrev pub Tree : ℕ → Type 0
Tree zero = ℕ × List (Key × Ref)
Tree (suc h) = ℕ × List (ℕ × Tree h)

-- the number of its top node
abbrev pub top_of : (h : ℕ) → Tree h → ℕ
top_of zero t = t.0
top_of (suc h) t = t.0

-- its entries, in order
abbrev pub entries_of : (h : ℕ) → Tree h → List (Key × Ref)
entries_of zero t = t.1
entries_of (suc h) t = flattened (λ p. entries_of h p.1) t.1

-- ---- counting: nodes and cells in one row of numbers, node k as 2k, cell c as 2c + 1

-- the number of node k in that row
abbrev pub node_no : ℕ → ℕ
node_no k = 2 * k

-- the number of cell c in that row
abbrev pub cell_no : ℕ → ℕ
cell_no c = 2 * c + 1

-- 1 where i is the number itself
unfoldable pub once : ℕ → ℕ → ℕ
once number i = cond (eqb number i) 1 0

-- how often the tree reaches number i
abbrev pub nodes_of : (h : ℕ) → Tree h → ℕ → ℕ
nodes_of zero t i = once (node_no t.0) i
nodes_of (suc h) t i = once (node_no t.0) i + total (λ p. nodes_of h p.1 i) t.1

-- ---- memory has the tree: each number is that of a leaf with these entries, or of an internode with these children, the left
-- edges of all but the first being its ikeys

-- memory has the tree of this height
abbrev pub Holds : List ℕ → (h : ℕ) → Tree h → Type 0
Holds nodes zero t = T (leaf_right nodes t.0) × (map seen_as (entries_at nodes t.0) ≡ t.1)
Holds nodes (suc h) t =
    T (internode_right nodes t.0)
    × (map suc (ikeys_at nodes t.0) ≡ map (λ p. p.0) (drop 1 t.1))
    × (children_at nodes t.0 ≡ map (λ p. top_of h p.1) t.1)
    × All (λ p. Holds nodes h p.1) t.1

-- ---- bounds: an edge is an ikey plus 1; 0 where nothing is to the left, 2^64 + 1 where nothing is to the right

-- the edge where nothing is to the left
abbrev pub leftmost : ℕ
leftmost = 0

-- the edge where nothing is to the right
abbrev pub rightmost : ℕ
rightmost = suc (2 ^ 64)

-- an entry's ikey lies at or above the ikey of the left edge, and below that of the right one
abbrev pub Within : ℕ → ℕ → Key × Ref → Type 0
Within lo hi e = (lo ≤ suc e.0.0) × (suc e.0.0 < hi)

-- children side by side from edge lo to edge hi, with R between the edges of each: the edges strictly rise
pub data Between {C : Type 0} (R : ℕ → ℕ → C → Type 0) (hi : ℕ) : ℕ → List (ℕ × C) → Type 0 where
  last : {lo : ℕ} {p : ℕ × C} → p.0 ≡ lo → lo < hi → R lo hi p.1 → Between R hi lo (p ∷ [])
  next : {lo : ℕ} (edge : ℕ) {p : ℕ × C} {ps : List (ℕ × C)} → p.0 ≡ lo → lo < edge → R lo edge p.1 → Between R hi edge ps
      → Between R hi lo (p ∷ ps)

-- the tree between two edges
abbrev pub Bounded : (h : ℕ) → ℕ → ℕ → Tree h → Type 0
Bounded zero lo hi t = All (Within lo hi) t.1
Bounded (suc h) lo hi t = Between (Bounded h) hi lo t.1
