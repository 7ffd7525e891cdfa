-- What a put through the layers needs depends on the cells in use alone. Assumes nothing.
use mathlib.Core.List.{List, map}
use mathlib.Core.Logic.{inl, inr}
use mathlib.Core.Option.{Option, none, some}
use mathlib.Core.Path.{◌≡◌, refl, sym, ap, ◌∙◌, subst}
use Prim.Native.Nat.{ℕ, ◌≤◌, ◌<◌, zero, suc}
use native.Mathlib.Omega.{arith}
use lib.ListN.{length}
use Rattle.order.specs.Bytes.{Bytes}
use Rattle.order.specs.Lists.{total}
use Rattle.order.specs.Map.{lookup}
use Rattle.order.specs.Options.{map_option, worth}
use Rattle.order.proofs.Changes.{worth-le, lookup-map, lookup-all}
use Rattle.trees.specs.Nodes.{IkeyClass, layer_order, NodeList}
use Rattle.trees.specs.FindInMemory.{height_from, memory_find, memory_needs}
use Rattle.trees.specs.Paths.{raised_ikey, rest_below, BelowLinks, layer_key, path_down}
use Rattle.trees.specs.Entries.{RightLayer, EntryValue, from_option, cell_key, RightValue, cell_uses}
use Rattle.trees.specs.Layers.{Pointer, LayeredValue, Layered, bare_value, bare_entry, layer_root, pointer_of, value_reaches, layer_reaches}
use Rattle.trees.specs.Layers.{HoldsValue, HoldsLayer}
use Rattle.trees.specs.LayersPut.{by_pointer, conflict_count, layers_need}
use Rattle.trees.proofs.Nodes.{layer-order, one_at-same}
use Rattle.trees.proofs.Paths.{bytes_rest}
use Rattle.trees.proofs.EntriesPut.{below-one-more}
use Rattle.trees.proofs.Relinked.{layer-found}

module _ (top mid : ℕ) (cut : List (IkeyClass × Pointer) → ℕ) (hi : ℕ) (at at' : ℕ → List ℕ × ℕ) (K : List ℕ)
    (hi-ok : (K : List ℕ) → Bytes K → raised_ikey K < hi) where
  key< : (ks : List ℕ) → BelowLinks ks K → (layer_key ks K).0 < hi
  unfolding layer_key
  key< ks u = hi-ok (rest_below ks K) (bytes_rest ks K u)

  pub layers_need-same : (l : ℕ) (ks : List ℕ) (m : NodeList Pointer) (v : Layered l) → BelowLinks ks K → HoldsLayer top hi l m v
      → RightLayer at l ks (map (bare_entry l) v.1) → ((j : ℕ) → layer_reaches l v j ≤ 1)
      → ((j : ℕ) → 0 < total (λ e. cell_uses l e.1 j) (map (bare_entry l) v.1) → at' j ≡ at j)
      → layers_need top at' K l ks (layer_root l v) m ≡ layers_need top at K l ks (layer_root l v) m
  layers_need-same zero ks m v uk H G u sm = refl
  layers_need-same (suc l) ks m v uk H G u sm =
      let L = layer-found top mid cut hi (suc l) m v (layer_key ks K) (key< ks uk) H (λ j. omega (arith, u j)) in
      subst (λ (o : Option Pointer). from_option A (B at') o ≡ from_option A (B at) o)
      (sym (ap (λ d. memory_find Pointer d (layer_key ks K) (0, layer_root (suc l) v) m) L.0 ∙ L.2))
      (go (lookup layer_order k v.1) refl (layers_need-same l (path_down K ks) m))
    where
      k : IkeyClass
      k = layer_key ks K

      A : ℕ
      A = memory_needs Pointer top (height_from (length m) m (layer_root (suc l) v)) k.0 (0, layer_root (suc l) v) m 1

      B : (ℕ → List ℕ × ℕ) → Pointer → ℕ
      B at = by_pointer (λ b. conflict_count K (cell_key at b) l (path_down K ks)) (λ q. layers_need top at K l (path_down K ks) q m)

      le : (o : EntryValue (suc l)) → lookup layer_order k (map (bare_entry (suc l)) v.1) ≡ some o → (j : ℕ)
          → cell_uses (suc l) o j ≤ total (λ e. cell_uses (suc l) e.1 j) (map (bare_entry (suc l)) v.1)
      le o q j = omega (
        arith,
        worth-le layer_order k (λ x. cell_uses (suc l) x j) (map (bare_entry (suc l)) v.1),
        ap (worth (λ x. cell_uses (suc l) x j)) q,
      )

      go : (o : Option (LayeredValue (suc l))) → lookup layer_order k v.1 ≡ o
          → ((w : Layered l) → BelowLinks (path_down K ks) K → HoldsLayer top hi l m w
          → RightLayer at l (path_down K ks) (map (bare_entry l) w.1) → ((j : ℕ) → layer_reaches l w j ≤ 1)
          → ((j : ℕ) → 0 < total (λ e. cell_uses l e.1 j) (map (bare_entry l) w.1) → at' j ≡ at j)
          → layers_need top at' K l (path_down K ks) (layer_root l w) m ≡ layers_need top at K l (path_down K ks) (layer_root l w) m)
          → from_option A (B at') (map_option (pointer_of (suc l)) o) ≡ from_option A (B at) (map_option (pointer_of (suc l)) o)
      go none q ih = refl
      go (some (inl b)) q ih =
          let lb : lookup layer_order k (map (bare_entry (suc l)) v.1) ≡ some (inl b) =
          lookup-map layer_order k (bare_value (suc l)) v.1 ∙ ap (map_option (bare_value (suc l))) q in
          ap (λ (y : List ℕ × ℕ). conflict_count K y.0 l (path_down K ks)) (sm b (omega (arith, le (inl b) lb b, one_at-same b)))
      go (some (inr w)) q ih =
          let lb : lookup layer_order k (map (bare_entry (suc l)) v.1) ≡ some (bare_value (suc l) (inr w)) =
          lookup-map layer_order k (bare_value (suc l)) v.1 ∙ ap (map_option (bare_value (suc l))) q in
          let g = lookup-all layer_order k layer-order (RightValue at (suc l) ks) G.1 (bare_value (suc l) (inr w)) lb in
          let h = lookup-all layer_order k layer-order (λ k v. HoldsValue top hi m (suc l) v) H.2 (inr w) q in
          ih w (below-one-more ks k.0 K uk (ap (λ (y : ℕ). (k.0, y)) g.0)) h (g.1, g.2)
          (λ j. omega (
            arith,
            u j,
            worth-le layer_order k (λ x. value_reaches (suc l) x j) v.1,
            ap (worth (λ x. value_reaches (suc l) x j)) q,
          )) (λ j i. sm j (omega (arith, le (bare_value (suc l) (inr w)) lb j)))
