-- The layers that a removal leaves empty, read off the tree that memory is once the entry is gone and before any layer is given back.
use Rattle.std.specs.Prelude.{ℕ, zero, suc, ◌*◌, Bool, false, cond, List, [], ◌∷◌, ◌++◌, eqb, length}
use Rattle.std.proofs.Common.{inl, inr}
use Rattle.order.specs.Layer.{ikey_at, class_at}
use Rattle.order.specs.Map.{lookup}
use Rattle.forest.specs.Trees.{Key, Tree, top_of}
use Rattle.forest.specs.Layers.{Tall, Value}
use Rattle.forest.specs.IsTree.{Layers}
use Rattle.trees.specs.Nodes.{layer_order}
use Rattle.trees.specs.Entries.{from_option}

-- one leaf and no more, with so many entries
abbrev pub one_leaf : ℕ → (h : ℕ) → Tree h → Bool
one_leaf n zero t = eqb (length t.1) n
one_leaf n (suc h) t = false

module _ (key : List ℕ) where
  -- the key's ikey and class, so many links down
  abbrev key_below : ℕ → Key
  key_below links = (ikey_at key (8 * links), class_at key (8 * links))

  -- the layers below an entry on the key's way, from the last upward
  abbrev pub layers_at : (l : ℕ) → ℕ → Value l → List Tall
  layers_at zero links c = []
  layers_at (suc l) links (inl c) = []
  layers_at (suc l) links (inr v) =
      from_option [] (layers_at l (suc links)) (lookup layer_order (key_below (suc links)) v.1) ++ v.0 ∷ []

  -- all below the first
  abbrev pub layers_upward : Layers → List Tall
  layers_upward v = from_option [] (layers_at 31 0) (lookup layer_order (key_below 0) v.1)

-- the roots of those at the front that are one leaf: the first with so many entries, each further one with one, the link to the one before
unfoldable pub empty_from : ℕ → List Tall → List ℕ
empty_from n [] = []
empty_from n (t ∷ ts) = cond (one_leaf n t.0 t.1) (top_of t.0 t.1 ∷ empty_from 1 ts) []

-- the layers left empty where the key is missing: the last, if it is one leaf without entries, and those above it, upward, as long as each
-- is one leaf with nothing but the link
abbrev pub emptied_layers : Layers → List ℕ → List ℕ
emptied_layers v key = empty_from 0 (layers_upward key v)
