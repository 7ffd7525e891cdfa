-- What the rules of Demand 1 mean where they go by an algorithm's name, on any lent memory, not only after a clear: `is_tree` (refusal 10),
-- `stored` and `frame_of` (11, 12 and what find tells), `in_key_order` (12 of k-th, and its entries), and what a removal frees.
use Rattle.std.specs.Prelude.{ℕ, ◌≡◌, true, false, List, [], ◌∷◌, map, T}
use Rattle.std.proofs.Common.{sym, ◌∙◌}
use Rattle.std.proofs.Math.Option.{none, some}
use Rattle.order.specs.Bytes.{Bytes, bytewise}
use Rattle.order.specs.Map.{lookup, Rising}
use Rattle.arena.specs.Layout.{key_at, frame_at}
use Rattle.arena.specs.Memory.{Memory}
use Rattle.forest.specs.IsTree.{Layers, IsTree, listing}
use Rattle.forest.specs.Walk.{is_tree}
use Rattle.forest.proofs.Accepts.{tree-found, tree-accepted}
use Rattle.forest.proofs.One.{tree-one}
use Rattle.model.specs.Calls as index
use Rattle.views.proofs.Listed.{cells-listed}
use Rattle.places.proofs.Found.{listing-rises}
use Rattle.index_given_back.specs.Emptied.{emptied_layers}
use Rattle.as_map.specs.Calls.{remove, done, heard, left, Freed}
use Rattle.as_map.proofs.Says.{stored-means}
use Rattle.as_map.proofs.Room.{remove-freed}

-- `is_tree` holds exactly where memory is some tree v by document 01's rules,
pub tree-exactly : (m : Memory) → (T (is_tree m) → (v : Layers) × IsTree m v) × ((v : Layers) → IsTree m v → T (is_tree m))
tree-exactly m = (tree-found m, tree-accepted m)

-- and v is one.
pub one-tree : (m : Memory) (v w : Layers) → IsTree m v → IsTree m w → v ≡ w
one-tree = tree-one

module _ (m : Memory) (v : Layers) (t : IsTree m v) where
  -- The cells in key order, each with its key and its frame number, are the listing,
  pub order-is-listing : map (λ c. (key_at m.cells m.bytes c, frame_at m.cells c)) (index.in_key_order m) ≡ listing m v
  order-is-listing = cells-listed m v t.forest

  module _ (bytes : Bytes m.bytes) where
    -- which strictly rises by key.
    pub listing-in-order : Rising (listing m v)
    listing-in-order = listing-rises m v t.forest bytes

    module _ (key : List ℕ) (b : Bytes key) where
      -- A key is stored exactly where the listing has it, and its frame number is the one there.
      pub stored-exactly : (index.stored m key ≡ true
          → (x : ℕ) × (lookup bytewise key (listing m v) ≡ some x) × (index.frame_of m (index.place m key) ≡ x ∷ []))
          × (index.stored m key ≡ false → lookup bytewise key (listing m v) ≡ none)
      stored-exactly = stored-means m v t bytes key b

      -- An accepted removal frees one cell, the one that has the key, and the nodes of the layers that it leaves empty, and nothing else
      -- (which entry goes, and that a tree is left: `one-call-leaves` of Demand2). Document 01 has it free no node; document 02 (A14)
      -- amends that. u is the tree without the key's entry, before any layer goes: on the key's way, below the first layer, the last layer
      -- goes if it is one leaf without entries, and each further one upward as long as it is one leaf with nothing but the link.
      pub removal-frees : heard m (remove key) ≡ done
          → (c : ℕ) × (u : Layers) × IsTree (index.without_entry m key) u × Freed m key c (emptied_layers u key) (left m (remove key))
      removal-frees = remove-freed m v t bytes key b
