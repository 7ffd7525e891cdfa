-- The tree of one layer, its nodes by their numbers: what it lists, which nodes it reaches, that memory has it, and its bounds.
-- `top` is the number of entries that a leaf can have, and of ikeys that an internode can have: 15.
use Rattle.std.specs.Prelude.{List, [], ◌∷◌, map, ◌≡◌, ℕ, ◌≤◌, ◌<◌, zero, suc, ◌+◌, length, drop}
use Rattle.order.specs.Lists.{total, flattened}
use Rattle.order.specs.Map.{All, Sorted}
use Rattle.trees.specs.Nodes.{IkeyClass, layer_order, Node, leaf, internode, NodeList, node_in, InBounds, one_at}

-- Children side by side from lo to hi, each beside its low ikey: one starts where the one before it ends, the low ikeys strictly rise,
-- and R holds of each between its own bounds.
pub data Abutting {C : Type 0} (R : ℕ → ℕ → C → Type 0) (hi : ℕ) : ℕ → List (ℕ × C) → Type 0 where
  last_child : {lo : ℕ} {p : ℕ × C} → p.0 ≡ lo → lo < hi → R lo hi p.1 → Abutting R hi lo (p ∷ [])
  and_next : {lo : ℕ} (s : ℕ) {p : ℕ × C} {ps : List (ℕ × C)} → p.0 ≡ lo → lo < s → R lo s p.1 → Abutting R hi s ps
      → Abutting R hi lo (p ∷ ps)

-- the low ikey of a list of children: the first one's
abbrev pub low_of_children : {C : Type 0} → List (ℕ × C) → ℕ
low_of_children [] = 0
low_of_children (p ∷ ps) = p.0

-- A tree by its height. At height 0 it is a leaf: its number, and its entries. Above, it is an internode: its number, and its
-- children, each beside its low ikey. All leaves of a tree are equally deep.
abbrev pub TreeOver : Type 0 → ℕ → Type 0
TreeOver W zero = ℕ × List (IkeyClass × W)
TreeOver W (suc d) = ℕ × List (ℕ × TreeOver W d)

-- the internode of these children: the ikeys are the low ikeys of all but the first
abbrev pub internode_of : {W : Type 0} → List (ℕ × ℕ) → Node W
internode_of xs = internode (map (λ p. p.0) (drop 1 xs)) (map (λ p. p.1) xs)

module _ (W : Type 0) where
  -- the number of its top node
  abbrev pub tree_root : (d : ℕ) → TreeOver W d → ℕ
  tree_root zero t = t.0
  tree_root (suc d) t = t.0

  -- its entries, in order
  abbrev pub tree_entries : (d : ℕ) → TreeOver W d → List (IkeyClass × W)
  tree_entries zero t = t.1
  tree_entries (suc d) t = flattened (λ p. tree_entries d p.1) t.1

  -- how often the tree reaches node j
  abbrev pub tree_reaches : (d : ℕ) → TreeOver W d → ℕ → ℕ
  tree_reaches zero t j = one_at t.0 j
  tree_reaches (suc d) t j = one_at t.0 j + total (λ p. tree_reaches d p.1 j) t.1

  -- memory has the tree: each number is that of a leaf with these entries, or of an internode with these children
  abbrev pub HoldsTree : NodeList W → (d : ℕ) → TreeOver W d → Type 0
  HoldsTree m zero t = node_in m t.0 ≡ leaf t.1
  HoldsTree m (suc d) t =
      (node_in m t.0 ≡ internode_of (map (λ p. (p.0, tree_root d p.1)) t.1))
      × All (λ p. HoldsTree m d p.1) t.1

module _ (W : Type 0) (top : ℕ) where
  -- A tree between lo and hi as it must be: entries strictly rise within their bounds, low ikeys strictly rise, and no node is over
  -- full.
  abbrev pub WellFormed : (d : ℕ) → ℕ → ℕ → TreeOver W d → Type 0
  WellFormed zero lo hi t = Sorted layer_order t.1 × All (InBounds lo hi) t.1 × (length t.1 ≤ top)
  WellFormed (suc d) lo hi t = Abutting (WellFormed d) hi lo t.1 × (length t.1 ≤ suc top)

module _ {C : Type 0} (rt : C → ℕ) where
  -- a child beside its low ikey, by its number; `rt` gives the number of its root
  abbrev pub numbered : ℕ × C → ℕ × ℕ
  numbered p = (p.0, rt p.1)

-- each internode has a child, and the first one's low ikey is its own
abbrev pub LowsAgree : (W : Type 0) (d : ℕ) → ℕ × TreeOver W d → Type 0
LowsAgree W zero p = Unit {0}
LowsAgree W (suc d) p = (0 < length p.1.1) × (low_of_children p.1.1 ≡ p.0) × All (LowsAgree W d) p.1.1

-- a tree of any height
abbrev pub AnyTree : Type 0 → Type 0
AnyTree W = (d : ℕ) × TreeOver W d

module _ (W : Type 0) where
  -- the number of its top node
  abbrev pub any_root : AnyTree W → ℕ
  any_root t = tree_root W t.0 t.1

  -- its entries, in order
  abbrev pub any_entries : AnyTree W → List (IkeyClass × W)
  any_entries t = tree_entries W t.0 t.1

  -- how often it reaches node j
  abbrev pub any_reaches : AnyTree W → ℕ → ℕ
  any_reaches t = tree_reaches W t.0 t.1

module _ (W : Type 0) (top hi : ℕ) where
  -- memory has the tree, and it is as it must be between a layer's edges
  abbrev pub HoldsAny : NodeList W → AnyTree W → Type 0
  HoldsAny m t = WellFormed W top t.0 0 hi t.1 × HoldsTree W m t.0 t.1
