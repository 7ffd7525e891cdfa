-- docs/LAYOUT.md as definitions: where nodes and cells stand in lent memory, and what stands in them.
use Rattle.std.specs.Prelude.{ℕ, ◌+◌, ◌-◌, ◌*◌, ◌≡◌, List, [], ◌∷◌, ◌++◌, length, get_or}
use Rattle.lent_nodes.specs.declared.inside.Leaf.{Leaf}
use Rattle.lent_nodes.specs.declared.inside.Internode.{Internode}
use Rattle.memory_layout.specs.Numbers.{
  header_words,
  node_words,
  ikeys_from,
  classes_from,
  refs_from,
  children_from,
  cell_words,
  cell_bytes,
}
use Rattle.lent_words.specs.Parts.{part, put_part, zeros}

-- ---- nodes: two words, and then 47 for each node

-- where node k starts
abbrev pub node_start : ℕ → ℕ
node_start k = header_words + k * node_words

-- where node k ends
abbrev pub node_end : ℕ → ℕ
node_end k = node_start k + node_words

-- the 47 words of node k
abbrev pub node_at : List ℕ → ℕ → List ℕ
node_at nodes k = part nodes (node_start k) node_words

-- other words in the place of node k
abbrev pub put_node : List ℕ → ℕ → List ℕ → List ℕ
put_node nodes k ws = put_part nodes (node_start k) ws

-- word i of node k
abbrev pub word_at : List ℕ → ℕ → ℕ → ℕ
word_at nodes k i = get_or nodes (node_start k + i) 0

-- 0 free, 1 leaf, 2 internode
abbrev pub kind_at : List ℕ → ℕ → ℕ
kind_at nodes k = get_or nodes (node_start k) 0

-- the number of the root
abbrev pub root_of : List ℕ → ℕ
root_of nodes = get_or nodes 0 0

-- a leaf by its 47 words: the slot word, and three columns of fifteen
unfoldable pub leaf_of : List ℕ → Leaf
leaf_of ws =
    record { word = get_or ws 1 0; ikeys = part ws ikeys_from 15; classes = part ws classes_from 15; refs = part ws refs_from 15 }

-- the 47 words of a leaf
abbrev pub leaf_words : Leaf → List ℕ
leaf_words l = 1 ∷ l.word ∷ (l.ikeys ++ l.classes ++ l.refs)

-- an internode by its 47 words: the number of its ikeys, fifteen ikeys, sixteen children, and fourteen zeros
unfoldable pub internode_of : List ℕ → Internode
internode_of ws = record { n = get_or ws 1 0; ikeys = part ws ikeys_from 15; children = part ws children_from 16 }

-- the 47 words of an internode
abbrev pub internode_words : Internode → List ℕ
internode_words x = 2 ∷ x.n ∷ (x.ikeys ++ x.children ++ zeros 14)

-- a free node
abbrev pub free_words : List ℕ
free_words = zeros node_words

-- node k, read as a leaf
abbrev pub leaf_at : List ℕ → ℕ → Leaf
leaf_at nodes k = leaf_of (node_at nodes k)

-- node k, read as an internode
abbrev pub internode_at : List ℕ → ℕ → Internode
internode_at nodes k = internode_of (node_at nodes k)

-- node k, written as a leaf
abbrev pub put_leaf : List ℕ → ℕ → Leaf → List ℕ
put_leaf nodes k l = put_node nodes k (leaf_words l)

-- node k, written as an internode
abbrev pub put_internode : List ℕ → ℕ → Internode → List ℕ
put_internode nodes k x = put_node nodes k (internode_words x)

-- node k, freed
abbrev pub freed_node : List ℕ → ℕ → List ℕ
freed_node nodes k = put_node nodes k free_words

-- the three columns of a leaf are whole
pub record WholeLeaf (l : Leaf) : Type 0 where
  pub ikeys-15 : length l.ikeys ≡ 15
  pub classes-15 : length l.classes ≡ 15
  pub refs-15 : length l.refs ≡ 15

-- the two columns of an internode are whole
pub record WholeInternode (x : Internode) : Type 0 where
  pub ikeys-15 : length x.ikeys ≡ 15
  pub children-16 : length x.children ≡ 16

-- ---- cells: two words and 256 bytes for each

-- where the words of cell k start
abbrev pub cell_start : ℕ → ℕ
cell_start k = k * cell_words

-- where they end
abbrev pub cell_end : ℕ → ℕ
cell_end k = cell_start k + cell_words

-- where the bytes of cell k start
abbrev pub key_start : ℕ → ℕ
key_start k = k * cell_bytes

-- where they end
abbrev pub key_end : ℕ → ℕ
key_end k = key_start k + cell_bytes

-- the two words of cell k
abbrev pub cell_at : List ℕ → ℕ → List ℕ
cell_at cells k = part cells (cell_start k) cell_words

-- the 256 bytes of cell k
abbrev pub bytes_at : List ℕ → ℕ → List ℕ
bytes_at bytes k = part bytes (key_start k) cell_bytes

-- the key's length plus 1, or 0 where the cell is free
abbrev pub mark_at : List ℕ → ℕ → ℕ
mark_at cells k = get_or cells (cell_start k) 0

-- the frame number
abbrev pub frame_at : List ℕ → ℕ → ℕ
frame_at cells k = get_or cells (cell_start k + 1) 0

-- the key
abbrev pub key_at : List ℕ → List ℕ → ℕ → List ℕ
key_at cells bytes k = part bytes (key_start k) (mark_at cells k - 1)

-- a key, and zeros up to 256 bytes
abbrev pub key_bytes : List ℕ → List ℕ
key_bytes key = key ++ zeros (cell_bytes - length key)

-- the words with a key of this length and a frame number in cell k
abbrev pub put_cell : List ℕ → ℕ → ℕ → ℕ → List ℕ
put_cell cells k len frame = put_part cells (cell_start k) ((len + 1) ∷ frame ∷ [])

-- the bytes with this key in cell k
abbrev pub put_key : List ℕ → ℕ → List ℕ → List ℕ
put_key bytes k key = put_part bytes (key_start k) (key_bytes key)

-- the words with cell k free
abbrev pub freed_cell : List ℕ → ℕ → List ℕ
freed_cell cells k = put_part cells (cell_start k) (zeros cell_words)

-- the bytes with those of cell k zero
abbrev pub freed_key : List ℕ → ℕ → List ℕ
freed_key bytes k = put_part bytes (key_start k) (zeros cell_bytes)
