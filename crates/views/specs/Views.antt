-- Lent memory as the trees have it. There an ikey is one more than its eight bytes, so that 0 stands left of all.
use Rattle.std.specs.Prelude.{ℕ, zero, suc, ◌<◌, Bool, cond, ◌||◌, List, [], ◌∷◌, map, eqb, T, length}
use Rattle.std.proofs.Common.{inl, inr}
use Rattle.std.proofs.Math.Option.{Option, none, some}
use Rattle.arena.specs.Layout.{kind_at, mark_at, frame_at, key_at}
use Rattle.arena.specs.Memory.{Memory, node_count, cell_count, right_lengths}
use Rattle.forest.specs.Nodes.{entries_at, ikeys_at, children_at, leaf_right, internode_right, node_free}
use Rattle.forest.specs.Cells.{cell_right, is_cell_free}
use Rattle.forest.specs.Trees as words
use Rattle.forest.specs.Trees.{seen_as}
use Rattle.forest.specs.Layers as layers
use Rattle.trees.specs.Nodes.{IkeyClass, Node, free, leaf, internode, NodeList}
use Rattle.trees.specs.Tree.{TreeOver}
use Rattle.trees.specs.Cells.{CellList}
use Rattle.trees.specs.Layers.{Pointer, cell, link, LayeredValue, Layered}

-- f of n numbers from i on
abbrev pub tabled : {A : Type 0} → (ℕ → A) → ℕ → ℕ → List A
tabled f i zero = []
tabled f i (suc n) = f i ∷ tabled f (suc i) n

-- an ikey, one higher than its eight bytes, and a class
abbrev pub key_view : words.Key → IkeyClass
key_view k = (suc k.0, k.1)

-- a cell or a link
abbrev pub ref_view : words.Ref → Pointer
ref_view (words.cell c) = cell c
ref_view (words.link n) = link n

-- an entry with what it refers to
abbrev pub entry_view : words.Key × words.Ref → IkeyClass × Pointer
entry_view e = (key_view e.0, ref_view e.1)

-- node k: a leaf with its entries, an internode with its ikeys and children, or free
unfoldable pub node_view : List ℕ → ℕ → Node Pointer
node_view nodes k =
    cond (eqb (kind_at nodes k) 1) (leaf (map (λ e. entry_view (seen_as e)) (entries_at nodes k)))
    (cond (eqb (kind_at nodes k) 2) (internode (map suc (ikeys_at nodes k)) (children_at nodes k)) free)

-- all nodes
abbrev pub nodes_view : Memory → NodeList Pointer
nodes_view m = tabled (node_view m.nodes) 0 (node_count (length m.nodes))

-- cell c: its key and its frame number, or nothing
unfoldable pub cell_view : List ℕ → List ℕ → ℕ → Option (List ℕ × ℕ)
cell_view cells bytes c = cond (eqb (mark_at cells c) 0) none (some (key_at cells bytes c, frame_at cells c))

-- all cells
abbrev pub cells_view : Memory → CellList
cells_view m = tabled (cell_view m.cells m.bytes) 0 (cell_count (length m.cells))

-- the tree of a layer
abbrev pub tree_view : (h : ℕ) → words.Tree h → TreeOver Pointer h
tree_view zero t = (t.0, map entry_view t.1)
tree_view (suc h) t = (t.0, map (λ p. (p.0, tree_view h p.1)) t.1)

-- what an entry has: a cell, or the layer below
abbrev pub value_view : (l : ℕ) → layers.Value l → LayeredValue l
value_view zero c = c
value_view (suc l) (inl c) = inl c
value_view (suc l) (inr v) =
    inr ((v.0.0, tree_view v.0.0 v.0.1), map (λ e. (key_view e.0, value_view l e.1)) v.1)

-- a layer: its tree, and its entries with what they have
abbrev pub layer_view : (l : ℕ) → layers.Layer l → Layered l
layer_view l v = ((v.0.0, tree_view v.0.0 v.0.1), map (λ e. (key_view e.0, value_view l e.1)) v.1)

-- What each node and each cell must be by itself, whatever is reached: in use and right, or free and zero.
unfoldable pub node_sound : List ℕ → ℕ → Bool
node_sound nodes k = node_free nodes k || (leaf_right nodes k || internode_right nodes k)

-- a cell is free, or right by itself
unfoldable pub cell_sound : List ℕ → List ℕ → ℕ → Bool
cell_sound cells bytes c = is_cell_free cells bytes c || cell_right cells bytes c

-- right lent lengths, and every node and cell sound
pub record Sound (m : Memory) : Type 0 where
  pub lent : T (right_lengths (length m.nodes) (length m.cells) (length m.bytes))
  pub nodes-sound : (k : ℕ) → k < node_count (length m.nodes) → T (node_sound m.nodes k)
  pub cells-sound : (c : ℕ) → c < cell_count (length m.cells) → T (cell_sound m.cells m.bytes c)
