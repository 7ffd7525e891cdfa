-- The nodes given back are those of the layers left empty, on the tree that memory is. Assumes nothing.
use mathlib.Core.Path.{◌≡◌, refl, sym, ap, ◌∙◌}
use mathlib.Core.Logic.{inl, inr}
use mathlib.Core.List.{List, [], ◌∷◌, ◌++◌, map}
use mathlib.Core.Option.{Option, none, some}
use Prim.Native.Nat.{ℕ, zero, suc, ◌+◌, ◌*◌, ◌≤◌}
use native.Mathlib.Omega.{arith}
use lib.Dec.{eqb}
use lib.ListN.{length, length-map}
use Rattle.order.specs.Bytes.{Bytes}
use Rattle.order.specs.Layer.{ikey_at, class_at}
use Rattle.order.specs.Map.{lookup}
use Rattle.order.specs.Options.{map_option}
use Rattle.arena.specs.Memory.{Memory}
use Rattle.forest.specs.Trees.{Key, top_of}
use Rattle.forest.specs.Layers.{Tall, Value, Layer}
use Rattle.forest.specs.IsTree.{Layers, IsTree}
use Rattle.model.specs.Calls.{place}
use Rattle.trees.specs.Nodes.{IkeyClass, layer_order}
use Rattle.trees.specs.Entries.{from_option}
use Rattle.trees.specs.Tree.{AnyTree, any_root}
use Rattle.trees.specs.Paths.{layer_key, path_down}
use Rattle.trees.specs.Layers.{Pointer, LayeredValue}
use Rattle.trees.proofs.Paths.{layer_key-at, down-length}
use Rattle.views.specs.Views.{entry_view, tree_view, value_view, layer_view}
use Rattle.views.proofs.Whole.{sound-of, to-trees}
use Rattle.places.proofs.Seen.{place-way}
use Rattle.puts.proofs.Needed.{lookup-view}
use Rattle.index_given_back.specs.GaveBack.{nodes_back}
use Rattle.index_given_back.specs.Emptied.{one_leaf, layers_at, layers_upward, empty_from, emptied_layers}
use Rattle.index_given_back.proofs.Upward.{trees_at, trees_up, leaf_with}
use Rattle.index_given_back.proofs.Step.{links_to}
use Rattle.index_given_back.proofs.All.{way-links}
use Rattle.index_given_back.proofs.Exact.{given_in, back_is}

-- the tree of a layer, as the mathematics has it
abbrev tall_view : Tall → AnyTree Pointer
tall_view t = (t.0, tree_view t.0 t.1)

leaf-seen : (n : ℕ) (t : Tall) → leaf_with n (tall_view t) ≡ one_leaf n t.0 t.1
leaf-seen n (zero, t) = ap (λ (i : ℕ). eqb i n) (length-map t.1 entry_view)
leaf-seen n (suc h, t) = refl

root-seen : (t : Tall) → any_root Pointer (tall_view t) ≡ top_of t.0 t.1
root-seen (zero, t) = refl
root-seen (suc h, t) = refl

-- what is given back of the layers below the first, which stands last
given-seen : (n : ℕ) (ts : List Tall) (u : AnyTree Pointer) → given_in n (map tall_view ts ++ u ∷ []) ≡ empty_from n ts
unfolding empty_from
given-seen n [] u = refl
given-seen n (t ∷ []) u = rw (leaf-seen n t, root-seen t) refl
given-seen n (t ∷ s ∷ ts) u = rw (leaf-seen n t, root-seen t, given-seen 1 (s ∷ ts) u) refl

map_more : (ts : List Tall) (t : Tall) → map tall_view (ts ++ t ∷ []) ≡ map tall_view ts ++ tall_view t ∷ []
map_more [] t = refl
map_more (s ∷ ts) t = ap (λ (us : List (AnyTree Pointer)). tall_view s ∷ us) (map_more ts t)

module _ (K : List ℕ) where
  -- the key's ikey and class, so many links down
  abbrev down : ℕ → Key
  down links = (ikey_at K (8 * links), class_at K (8 * links))

  entry_seen : (l : ℕ) (v : Layer l) (ks : List ℕ)
      → lookup layer_order (layer_key ks K) (layer_view l v).1 ≡ map_option (value_view l) (lookup layer_order (down (length ks)) v.1)
  entry_seen l v ks =
      ap (λ (k : IkeyClass). lookup layer_order k (layer_view l v).1) (layer_key-at ks K (length ks) refl)
      ∙ lookup-view l (down (length ks)) v.1

  layers-seen : (l : ℕ) (ks : List ℕ) (y : Value l) → trees_at K l ks (value_view l y) ≡ map tall_view (layers_at K l (length ks) y)
  layers-seen zero ks c = refl
  layers-seen (suc l) ks (inl c) = refl
  layers-seen (suc l) ks (inr v) =
      ap (λ (o : Option (LayeredValue l)). from_option [] (trees_at K l (path_down K ks)) o ++ tall_view v.0 ∷ [])
      (entry_seen l v (path_down K ks))
      ∙ go (lookup layer_order (down (length (path_down K ks))) v.1) (layers-seen l (path_down K ks))
      ∙ ap (λ (i : ℕ). map tall_view (from_option [] (layers_at K l i) (lookup layer_order (down i) v.1) ++ v.0 ∷ []))
      (down-length K ks (length ks) refl)
    where
      go : (o : Option (Value l))
          → ((y : Value l) → trees_at K l (path_down K ks) (value_view l y) ≡ map tall_view (layers_at K l (length (path_down K ks)) y))
          → from_option [] (trees_at K l (path_down K ks)) (map_option (value_view l) o) ++ tall_view v.0 ∷ []
          ≡ map tall_view (from_option [] (layers_at K l (length (path_down K ks))) o ++ v.0 ∷ [])
      go none ih = refl
      go (some y) ih =
          ap (λ (us : List (AnyTree Pointer)). us ++ tall_view v.0 ∷ []) (ih y)
          ∙ sym (map_more (layers_at K l (length (path_down K ks)) y) v.0)

  upward-seen : (v : Layers) → trees_up K 31 (layer_view 31 v) [] ≡ map tall_view (layers_upward K v) ++ tall_view v.0 ∷ []
  upward-seen v =
      ap (λ (o : Option (LayeredValue 31)). from_option [] (trees_at K 31 []) o ++ tall_view v.0 ∷ []) (entry_seen 31 v [])
      ∙ go (lookup layer_order (down 0) v.1)
    where
      go : (o : Option (Value 31)) → from_option [] (trees_at K 31 []) (map_option (value_view 31) o) ++ tall_view v.0 ∷ []
          ≡ map tall_view (from_option [] (layers_at K 31 0) o) ++ tall_view v.0 ∷ []
      go none = refl
      go (some y) = ap (λ (us : List (AnyTree Pointer)). us ++ tall_view v.0 ∷ []) (layers-seen 31 [] y)

-- the nodes that 31 steps give back are those of the layers left empty on the key's way
pub back-exactly : (m : Memory) (v : Layers) → IsTree m v → Bytes m.bytes → (K : List ℕ) → Bytes K
    → nodes_back 31 m K ≡ emptied_layers v K
back-exactly m v t bytes K b =
    let few : links_to (place m K) ≤ 31 = omega (
      arith,
      way-links m K (place-way m (sound-of m v t.forest) (layer_view 31 v) (to-trees m v t.forest bytes) K b),
    ) in
    back_is 31 m v t bytes K b few ∙ ap (given_in 0) (upward-seen K v) ∙ given-seen 0 (layers_upward K v) (tall_view v.0)
