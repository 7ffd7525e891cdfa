-- Memory is a tree by these rules: document 01's paragraph, in its order.
use Rattle.std.specs.Prelude.{ℕ, ◌≤◌, ◌<◌, ◌≡◌, List, [], T, length}
use Rattle.arena.specs.Layout as layout
use Rattle.arena.specs.Memory.{Memory, node_count, cell_count, right_lengths}
use Rattle.forest.specs.Count.{count_of}
use Rattle.forest.specs.Nodes.{node_free}
use Rattle.forest.specs.Cells.{is_cell_free}
use Rattle.forest.specs.Trees.{node_no, cell_no}
use Rattle.forest.specs.Layers.{Layer, root_of, reached, Held, InEdges, Filed, listed}

-- no layer is over 31 links down
abbrev pub Layers : Type 0
Layers = Layer 31

-- its keys and frames, in order
abbrev pub listing : Memory → Layers → List (List ℕ × ℕ)
listing m v = listed m.cells m.bytes 31 v

-- Memory m has the tree v, whatever its count says.
pub record Forest (m : Memory) (v : Layers) : Type 0 where
  -- the lent lengths are right, and the header has the number of the root
  pub lent : T (right_lengths (length m.nodes) (length m.cells) (length m.bytes))
  pub rooted : layout.root_of m.nodes ≡ root_of v
  -- every leaf has a valid slot word and rising entries, every internode rising ikeys and a child more; the leaves of a layer stand
  -- at one depth; unused places hold zero
  pub held : Held m.nodes 31 v
  -- on the way down ikeys stay between their neighbours: an entry may have the ikey on its left, never the one on its right, and an
  -- internode's ikeys have neither
  pub in-edges : InEdges 31 v
  -- nothing is reached twice, neither a node nor a cell
  pub at-most-once : (i : ℕ) → reached 31 v i ≤ 1
  -- a cell holds a key that belongs where its entry stands: below those links, with that ikey and class; zeros follow it
  pub filed : Filed m.cells m.bytes 31 [] v
  -- whatever is not reached is free: nothing but zeros
  pub other-nodes : (k : ℕ) → k < node_count (length m.nodes) → reached 31 v (node_no k) ≡ 0 → T (node_free m.nodes k)
  pub other-cells : (c : ℕ) → c < cell_count (length m.cells) → reached 31 v (cell_no c) ≡ 0 → T (is_cell_free m.cells m.bytes c)

-- Memory m is the tree v: it has the tree, and counts its entries. Word 1 of the nodes, which document 01 has as zero, is their number
-- (document 02, A5).
pub record IsTree (m : Memory) (v : Layers) : Type 0 where
  pub forest : Forest m v
  pub counted : count_of m ≡ length (listing m v)
