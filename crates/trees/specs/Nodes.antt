-- A node, and memory as a list of nodes: node n is the n-th of the list. What an entry has is W, whatever that is.
-- Ikeys stand here one higher than their eight bytes, so that 0 stands left of all of them: a layer has no ikey on its left edge.
use Rattle.std.specs.Prelude.{cond, List, [], ◌∷◌, eqb, get_or}
use Prim.Native.Nat.{ℕ, ◌≤◌, ◌<◌, compare, Ordering}
use Rattle.order.specs.Bytes.{then}

-- an ikey, one higher than its eight bytes, and a class: a length of 0 to 8, or 9 for longer
abbrev pub IkeyClass : Type 0
IkeyClass = ℕ × ℕ

-- the order at one layer: ikey, then class
unfoldable pub layer_order : IkeyClass → IkeyClass → Ordering
layer_order a b = then (compare a.0 b.0) (compare a.1 b.1)

-- a node: free; a leaf with its entries in order; or an internode with its ikeys and its children's numbers
pub data Node (W : Type 0) : Type 0 where
  free : Node W
  leaf : List (IkeyClass × W) → Node W
  internode : List ℕ → List ℕ → Node W

-- memory as a list of nodes
abbrev pub NodeList : Type 0 → Type 0
NodeList W = List (Node W)

-- node n; past the end all are free
abbrev pub node_in : {W : Type 0} → NodeList W → ℕ → Node W
node_in m n = get_or m n free

-- an entry's ikey lies at or above lo and below hi, and its class is one
abbrev pub InBounds : {W : Type 0} → ℕ → ℕ → IkeyClass × W → Type 0
InBounds lo hi e = (lo ≤ e.0.0) × (e.0.0 < hi) × (e.0.1 ≤ 9)

-- 1 where j is n, else 0
unfoldable pub one_at : ℕ → ℕ → ℕ
one_at n j = cond (eqb n j) 1 0

-- the node is not free
abbrev pub InUse : {W : Type 0} → Node W → Type 0
InUse free = ⊥
InUse (leaf es) = Unit {0}
InUse (internode ks cs) = Unit {0}

-- the members of two lists in pairs
abbrev pub pair_up : List ℕ → List ℕ → List (ℕ × ℕ)
pair_up [] cs = []
pair_up (k ∷ ks) [] = []
pair_up (k ∷ ks) (c ∷ cs) = (k, c) ∷ pair_up ks cs

-- the entries of a leaf
abbrev pub leaf_entries : {W : Type 0} → Node W → List (IkeyClass × W)
leaf_entries free = []
leaf_entries (leaf es) = es
leaf_entries (internode ks cs) = []

-- the children of an internode, each beside its low ikey: the first one's is the node's own, lo, and not written down
abbrev pub children_of : {W : Type 0} → ℕ → Node W → List (ℕ × ℕ)
children_of lo free = []
children_of lo (leaf es) = []
children_of lo (internode ks cs) = pair_up (lo ∷ ks) cs
