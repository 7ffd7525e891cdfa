-- The leaf in which a key's search ends, down the layers: what it has, and how many entries it will have once the key is put.
use Rattle.std.specs.Prelude.{List, ◌⊎◌, ℕ, zero, suc, length}
use Rattle.std.proofs.Common.{inl, inr}
use Rattle.std.proofs.Math.Option.{Option, none, some}
use Rattle.order.specs.Map.{alter, lookup}
use Rattle.trees.specs.Nodes.{IkeyClass, layer_order}
use Rattle.trees.specs.TreePut.{any_leaf, leaf_kept}
use Rattle.trees.specs.Paths.{layer_key, path_down}
use Rattle.trees.specs.Layers.{Pointer, cell, Layered}

-- what is said where no entry is, at a cell, or of the layer below
abbrev pub by_entry : {A B : Type 0} → B → B → (A → B) → Option (ℕ ⊎ A) → B
by_entry z a f none = z
by_entry z a f (some (inl c)) = a
by_entry z a f (some (inr w)) = f w

module _ (K : List ℕ) where
  -- the entries of the leaf of this layer to which the key leads
  abbrev pub leaf_here : (l : ℕ) → List ℕ → Layered l → List (IkeyClass × Pointer)
  leaf_here l ks v = any_leaf Pointer (layer_key ks K).0 v.0

  -- those of the leaf in which its search ends: below a link it goes on
  abbrev pub leaf_of_key : (l : ℕ) → List ℕ → Layered l → List (IkeyClass × Pointer)
  leaf_of_key zero ks v = leaf_here zero ks v
  leaf_of_key (suc l) ks v =
      by_entry (leaf_here (suc l) ks v) (leaf_here (suc l) ks v) (leaf_of_key l (path_down K ks)) (lookup layer_order (layer_key ks K) v.1)

  module _ (top : ℕ) (cut : List (IkeyClass × Pointer) → ℕ) (c : ℕ) where
    -- how many entries that leaf has with an entry more, for cell c: itself, or the half of it in which the entry is
    abbrev pub size_here : (l : ℕ) → List ℕ → Layered l → ℕ
    size_here l ks v =
        length (leaf_kept Pointer top cut (layer_key ks K).0 (alter layer_order (layer_key ks K) (λ o. some (cell c)) (leaf_here l ks v)))

    -- how many entries the leaf has in which the key is once it is put, in cell c: two after a conflict
    abbrev pub size_after_put : (l : ℕ) → List ℕ → Layered l → ℕ
    size_after_put zero ks v = size_here zero ks v
    size_after_put (suc l) ks v =
        by_entry (size_here (suc l) ks v) 2 (size_after_put l (path_down K ks)) (lookup layer_order (layer_key ks K) v.1)
