-- The nodes that a put of a new key needs, as document 01 counts them, on the tree that memory is: one per split node, one more for a new
-- root of that layer, one per new layer. No free node comes into it.
use Rattle.std.specs.Prelude.{ℕ, zero, suc, ◌+◌, ◌-◌, ◌*◌, Bool, cond, List, [], ◌∷◌, ◌++◌, eqb, length}
use Rattle.std.proofs.Common.{inl, inr}
use Rattle.memory_layout.specs.Numbers.{node_words}
use Rattle.bank.specs.Lists.{up}
use Rattle.order.specs.Layer.{ikey_at, class_at}
use Rattle.order.specs.Map.{lookup}
use Rattle.arena.specs.Layout.{key_at}
use Rattle.arena.specs.Parts.{zeros}
use Rattle.arena.specs.Memory.{Memory, memory}
use Rattle.forest.specs.Trees.{Key, Tree}
use Rattle.forest.specs.Layers.{Tall, Value, Layer}
use Rattle.forest.specs.IsTree.{Layers}
use Rattle.model.specs.Needed.{both_go_on}
use Rattle.trees.specs.Nodes.{layer_order}
use Rattle.trees.specs.Entries.{from_option}
use Rattle.trees.specs.TreePut.{of_child}

-- how many at the front of a list pass the test, before the first that does not
unfoldable pub leading : {A : Type 0} → (A → Bool) → List A → ℕ
leading test [] = 0
leading test (x ∷ xs) = cond (test x) (suc (leading test xs)) 0

-- ---- an entry more in one layer

-- From the leaf that an ikey leads to upward to the top of the tree: whether each node on the way is full. A leaf is full with 15 entries,
-- an internode with 15 ikeys, which are 16 children; descent takes the child after the last ikey not above the target.
unfoldable pub full_upward : (h : ℕ) → ℕ → Tree h → List Bool
full_upward zero ikey t = eqb (length t.1) 15 ∷ []
full_upward (suc h) ikey t = of_child [] (λ p. full_upward h ikey p.1) (suc ikey) t.1 ++ eqb (length t.1) 16 ∷ []

-- the nodes that are split: the full ones that follow one another from the leaf upward
abbrev pub splits : List Bool → ℕ
splits full = leading (λ b. b) full

-- one for each split node, and one more for a new root where all of them are split
abbrev pub needed_upward : List Bool → ℕ
needed_upward full = splits full + cond (eqb (splits full) (length full)) 1 0

-- what an entry more of this ikey needs in the tree of a layer
abbrev pub needed_in_layer : ℕ → Tall → ℕ
needed_in_layer ikey t = needed_upward (full_upward t.0 ikey t.1)

-- ---- a conflict

-- The layers that two keys make which are longer and agree down to here, so many links down: one for each further layer in which they have
-- the same ikey and both are longer, and then the one with the two.
abbrev pub new_layers : List ℕ → List ℕ → ℕ → ℕ
new_layers key other links = suc (leading (both_go_on key other) (up links (31 - links)))

-- ---- all layers

module _ (cells bytes key : List ℕ) where
  -- the key's ikey and class, so many links down
  abbrev pub key_down : ℕ → Key
  key_down links = (ikey_at key (8 * links), class_at key (8 * links))

  -- where an entry of the key's ikey and class stands: a cell has another key, and the layers of the conflict are new; a link leads on to
  -- the layer below. In the last layer no key is longer, so that such an entry is the key itself.
  abbrev pub needed_at_entry : (l : ℕ) → ℕ → Value l → ℕ
  needed_at_entry zero links c = 0
  needed_at_entry (suc l) links (inl c) = new_layers key (key_at cells bytes c) (suc links)
  needed_at_entry (suc l) links (inr v) =
      from_option (needed_in_layer (ikey_at key (8 * suc links)) v.0) (needed_at_entry l (suc links))
      (lookup layer_order (key_down (suc links)) v.1)

  -- in a layer so many links down: an entry more where there is none of the key's ikey and class
  abbrev pub needed_from : (l : ℕ) → ℕ → Layer l → ℕ
  needed_from l links v =
      from_option (needed_in_layer (ikey_at key (8 * links)) v.0) (needed_at_entry l links) (lookup layer_order (key_down links) v.1)

-- the nodes that a put of this key needs, where memory is the tree v and does not have the key
abbrev pub needed_nodes : Memory → Layers → List ℕ → ℕ
needed_nodes m v key = needed_from m.cells m.bytes key 31 0 v

-- memory with so many nodes more, all of them free
abbrev pub lent_more : Memory → ℕ → Memory
lent_more m k = memory (m.nodes ++ zeros (k * node_words)) m.cells m.bytes
