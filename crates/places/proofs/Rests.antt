-- Where a key stands, so many slots rest: as the leaf in which its search ends has entries. Assumes nothing.
use mathlib.Core.Path.{◌≡◌, refl, sym, ap, ◌∙◌, subst}
use mathlib.Core.Logic.{inr}
use mathlib.Core.Bool.{true}
use mathlib.Core.List.{List, [], ◌∷◌}
use Prim.Native.Nat.{ℕ, suc, ◌*◌, ◌≤◌, ◌<◌}
use native.Mathlib.Omega.{arith}
use lib.ListN.{length, drop}
use Rattle.order.specs.Bytes.{Bytes}
use Rattle.order.specs.Layer.{ikey_at}
use Rattle.order.specs.Options.{worth}
use Rattle.order.proofs.Bytes.{bytes_drop}
use Rattle.order.proofs.Changes.{worth-le, lookup-all}
use Rattle.arena.specs.Memory.{Memory}
use Rattle.forest.specs.Nodes.{slots_at}
use Rattle.model.specs.Down.{leaf_in}
use Rattle.model.specs.Leaves.{rest_of}
use Rattle.model.specs.Calls.{is_stored, rests_at}
use Rattle.model.specs.declared.Met.{Met}
use Rattle.trees.specs.Nodes.{IkeyClass, layer_order, NodeList}
use Rattle.trees.specs.Paths.{rest_below, layer_key, key_below}
use Rattle.trees.specs.Layers.{Pointer, Layered, layer_root, value_reaches, layer_reaches, HoldsValue, HoldsLayer}
use Rattle.trees.specs.TreePut.{any_leaf}
use Rattle.trees.specs.LeafOfKey.{leaf_here, leaf_of_key}
use Rattle.trees.proofs.Nodes.{layer-order}
use Rattle.trees.proofs.Paths.{raised_ikey-lt, layer_key-at}
use Rattle.trees.proofs.LeafOfKey.{ends-here, goes_on}
use Rattle.views.specs.Views.{nodes_view, Sound}
use Rattle.views.proofs.LayerViews.{right_edge}
use Rattle.growth.proofs.Lent.{nodes-of}
use Rattle.growth.proofs.Rests.{leaf-size}
use Rattle.places.proofs.Meets.{Way, stored, below}
use Rattle.places.proofs.Meets as way

-- what is left of a key of bytes is one
rest-bytes : (ks K : List ℕ) → Bytes K → Bytes (rest_below ks K)
unfolding rest_below
rest-bytes [] K b = b
rest-bytes (k ∷ ks) K b = rest-bytes ks (drop 8 K) (bytes_drop 8 b)

module _ (m : Memory) (sound : Sound m) (K : List ℕ) (b : Bytes K) where
  abbrev M : NodeList Pointer
  M = nodes_view m

  small : (ks : List ℕ) → (layer_key ks K).0 < right_edge
  unfolding layer_key
  small ks = raised_ikey-lt (rest-bytes ks K b)

  -- the size of the leaf to which the key leads in a layer
  size-here : (l : ℕ) (v : Layered l) (ks : List ℕ) → HoldsLayer 15 right_edge l M v → ((j : ℕ) → layer_reaches l v j ≤ 1)
      → (slots_at m.nodes (leaf_in m.nodes (layer_root l v) (ikey_at K (8 * length ks)))).size ≡ length (leaf_here K l ks v)
  size-here l v ks H u =
      let key-is : layer_key ks K ≡ key_below K (length ks) = layer_key-at ks K (length ks) refl in
      let low : suc (ikey_at K (8 * length ks)) < right_edge = subst (λ (k : IkeyClass). k.0 < right_edge) key-is (small ks) in
      leaf-size m.nodes _ (nodes-of m sound).0 (nodes-of m sound).1 (ikey_at K (8 * length ks)) right_edge low v.0 H.0
      (λ j. omega (arith, u j))
      ∙ ap (λ (k : IkeyClass). length (any_leaf Pointer k.0 v.0)) (sym key-is)

  pub way-rests : {l : ℕ} {v : Layered l} {ks : List ℕ} {holder : ℕ} {o : Met} → Way m K l v ks holder o → is_stored o ≡ true
      → HoldsLayer 15 right_edge l M v → ((j : ℕ) → layer_reaches l v j ≤ 1) → rests_at m o ≡ rest_of (length (leaf_of_key K l ks v)) ∷ []
  way-rests (way.missing l v ks holder q) s H u = let z : ◌≡◌ {A = ℕ} 0 1 = cc in absurd (omega arith)
  way-rests (way.conflict l v ks holder leaf p c q E w n) s H u = let z : ◌≡◌ {A = ℕ} 0 1 = cc in absurd (omega arith)
  way-rests (stored l v ks holder leaf p c q E w e) s H u =
      ap (λ (k : ℕ). rest_of (slots_at m.nodes k).size ∷ []) E.leaf-is
      ∙ ap (λ (i : ℕ). rest_of i ∷ []) (size-here l v ks H u ∙ sym (ap length (ends-here K ks l c v q)))
  way-rests (below l v ks holder leaf p w o q E rest) s H u =
      way-rests rest s (lookup-all layer_order (layer_key ks K) layer-order (λ k x. HoldsValue 15 right_edge M (suc l) x) H.2 (inr w) q)
      (λ j. omega (
        arith,
        u j,
        worth-le layer_order (layer_key ks K) (λ x. value_reaches (suc l) x j) v.1,
        ap (worth (λ x. value_reaches (suc l) x j)) q,
      ))
      ∙ ap (λ (i : ℕ). rest_of i ∷ []) (sym (ap length (goes_on K ks l v w q)))
