-- The leaf of a key after an entry of its layer was put or led elsewhere. Assumes nothing.
use mathlib.Core.List.{List, [], ◌∷◌}
use mathlib.Core.Logic.{◌≢◌, inl, inr}
use mathlib.Core.Option.{none, some}
use mathlib.Core.Path.{◌≡◌, refl, ap, ◌∙◌}
use Prim.Native.Nat.{ℕ, Ordering, zero, suc}
use lib.ListN.{length}
use Rattle.order.specs.Map.{alter, lookup, pick}
use Rattle.trees.specs.Nodes.{IkeyClass, layer_order}
use Rattle.trees.specs.TreePut.{leaf_kept}
use Rattle.trees.specs.Paths.{layer_key, path_down}
use Rattle.trees.specs.Layers.{Pointer, cell, Layered, layered_cell}
use Rattle.trees.specs.LeafOfKey.{leaf_here, leaf_of_key, size_after_put}
use Rattle.trees.proofs.Nodes.{layer-order}

-- what was put is found
pub found-put : {W : Type 0} (k : IkeyClass) (v : W) (l : List (IkeyClass × W))
    → lookup layer_order k (alter layer_order k (λ o. some v) l) ≡ some v
unfolding lookup alter
found-put k v [] = rw (layer-order.same k)
found-put {W = W} k v (e ∷ es) = go (layer_order k e.0) refl (found-put k v es)
  where
    go : (o : Ordering) → layer_order k e.0 ≡ o → lookup layer_order k (alter layer_order k (λ o. some v) es) ≡ some v
        → lookup layer_order k (pick o ((k, v) ∷ e ∷ es) ((k, v) ∷ es) (e ∷ alter layer_order k (λ o. some v) es)) ≡ some v
    go Ordering.lt q h = rw (layer-order.same k)
    go Ordering.eq q h = rw (layer-order.same k)
    go Ordering.gt q h = rw q h

-- two entries with unlike keys are two
pub two-entries : {W : Type 0} (k j : IkeyClass) (v w : W) → layer_order k j ≢ Ordering.eq
    → length (alter layer_order k (λ o. some v) ((j, w) ∷ [])) ≡ 2
unfolding alter
two-entries {W = W} k j v w apart = go (layer_order k j) refl
  where
    go : (o : Ordering) → layer_order k j ≡ o
        → length {A = IkeyClass × W} (pick o ((k, v) ∷ (j, w) ∷ []) ((k, v) ∷ []) ((j, w) ∷ (k, v) ∷ [])) ≡ 2
    go Ordering.lt q = refl
    go Ordering.eq q = absurd (apart q)
    go Ordering.gt q = refl

module _ (K : List ℕ) (ks : List ℕ) where
  -- where the key's entry is a cell, or nothing, the search ends in this layer
  pub ends-here : (l c : ℕ) (w : Layered l) → lookup layer_order (layer_key ks K) w.1 ≡ some (layered_cell l c)
      → leaf_of_key K l ks w ≡ leaf_here K l ks w
  ends-here zero c w q = refl
  ends-here (suc l) c w q = rw q

  -- where it is a link, it goes on below
  pub goes_on : (l : ℕ) (w : Layered (suc l)) (x : Layered l) → lookup layer_order (layer_key ks K) w.1 ≡ some (inr x)
      → leaf_of_key K (suc l) ks w ≡ leaf_of_key K l (path_down K ks) x
  goes_on l w x q = rw q

  module _ (top : ℕ) (cut : List (IkeyClass × Pointer) → ℕ) (c : ℕ) where
    -- a new entry
    pub put-here : (l : ℕ) (v w : Layered l) → lookup layer_order (layer_key ks K) v.1 ≡ none
        → w.1 ≡ alter layer_order (layer_key ks K) (λ o. some (layered_cell l c)) v.1
        → leaf_here K l ks w ≡ leaf_kept Pointer top cut (layer_key ks K).0
        (alter layer_order (layer_key ks K) (λ o. some (cell c)) (leaf_here K l ks v))
        → length (leaf_of_key K l ks w) ≡ size_after_put K top cut c l ks v
    put-here zero v w q e f = ap length f
    put-here (suc l) v w q e f =
        let found = ap (lookup layer_order (layer_key ks K)) e ∙ found-put (layer_key ks K) (inl c) v.1 in
        ap length (ends-here (suc l) c w found ∙ f) ∙ rw q

    -- an entry that leads to a changed layer
    pub put-below : (l : ℕ) (v x : Layered (suc l)) (w : Layered l)
        → x.1 ≡ alter layer_order (layer_key ks K) (λ o. some (inr w)) v.1
        → length (leaf_of_key K l (path_down K ks) w) ≡ size_after_put K top cut c (suc l) ks v
        → length (leaf_of_key K (suc l) ks x) ≡ size_after_put K top cut c (suc l) ks v
    put-below l v x w e f =
        ap length (goes_on l x w (ap (lookup layer_order (layer_key ks K)) e ∙ found-put (layer_key ks K) (inr w) v.1)) ∙ f
