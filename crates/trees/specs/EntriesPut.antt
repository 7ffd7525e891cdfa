-- A put among the entries of the layers: of the key in cell c, in the entry of its ikey and class.
use Rattle.std.specs.Prelude.{List, [], ◌∷◌, ℕ, zero, suc}
use Rattle.std.proofs.Common.{inl, inr}
use Rattle.std.proofs.Math.Option.{some}
use Rattle.order.specs.Map.{alter, pick}
use Rattle.trees.specs.Nodes.{IkeyClass, layer_order}
use Rattle.trees.specs.Paths.{layer_key, path_down}
use Rattle.trees.specs.Entries.{EntryValue, cell_value, from_option, cell_key}

module _ (cell : ℕ → List ℕ × ℕ) where
  module _ (a b : ℕ) where
    -- the two cells a and b in one layer, in order
    abbrev pub two_entries : (l : ℕ) → List ℕ → List (IkeyClass × EntryValue l)
    two_entries l ks =
        alter layer_order (layer_key ks (cell_key cell a)) (λ o. some (cell_value l a)) ((layer_key ks (cell_key cell b), cell_value l b) ∷ [])

    -- A conflict of the cells a and b: one link for each further equal ikey with both keys longer, then the two entries.
    abbrev pub conflict_entries : (l : ℕ) → List ℕ → List (IkeyClass × EntryValue l)
    conflict_entries zero ks = two_entries zero ks
    conflict_entries (suc l) ks =
        pick (layer_order (layer_key ks (cell_key cell a)) (layer_key ks (cell_key cell b)))
        (two_entries (suc l) ks)
        ((layer_key ks (cell_key cell a), inr (conflict_entries l (path_down (cell_key cell a) ks))) ∷ [])
        (two_entries (suc l) ks)

  module _ (c : ℕ) where
    -- The entry's value with the key of cell c in it: a cell becomes the layers of a conflict; in a layer below, the entry of the key's
    -- ikey and class there becomes its cell, if it is new, or changes in the same way.
    abbrev pub put_into_value : (l : ℕ) → List ℕ → EntryValue l → EntryValue l
    put_into_value zero ks v = v
    put_into_value (suc l) ks (inl b) = inr (conflict_entries c b l (path_down (cell_key cell c) ks))
    put_into_value (suc l) ks (inr es) =
        let ks' = path_down (cell_key cell c) ks in
        inr (alter layer_order (layer_key ks' (cell_key cell c)) (λ o. some (from_option (cell_value l c) (put_into_value l ks') o)) es)
