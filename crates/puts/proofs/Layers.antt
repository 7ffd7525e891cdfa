-- A layer on the way of a new key: what is known of it, and the nodes that the put needs there. Assumes nothing.
use mathlib.Core.Path.{◌≡◌, refl, sym, ap, ◌∙◌}
use mathlib.Core.Logic.{inl, inr, ◌≢◌}
use mathlib.Core.Bool.{false}
use mathlib.Core.List.{List, [], ◌∷◌, map}
use mathlib.Core.Option.{Option, none, some}
use Prim.Native.Nat.{ℕ, zero, suc, ◌+◌, ◌-◌, ◌≤◌, ◌<◌}
use native.Mathlib.Omega.{arith}
use lib.ListN.{length}
use Rattle.arena.specs.Layout.{mark_at, key_at}
use Rattle.arena.specs.Memory.{Memory}
use Rattle.forest.specs.Walk.{height_at}
use Rattle.model.specs.Needed.{need_in, layers_of}
use Rattle.model.specs.Grow.{entry_for, layer_rests}
use Rattle.model.specs.Leaves.{rest_of}
use Rattle.model.specs.Calls.{fresh_cell, is_stored, needed_at, rests_passed}
use Rattle.model.specs.declared.Met.{Met}
use Rattle.trees.specs.Nodes.{layer_order, NodeList}
use Rattle.trees.specs.FreeNumbers.{free_numbers, times_in}
use Rattle.trees.specs.Tree.{any_reaches}
use Rattle.trees.specs.Cut.{cut_place}
use Rattle.trees.specs.FindInMemory.{memory_find, memory_needs}
use Rattle.trees.specs.Paths.{rest_below, BelowLinks, layer_key, path_down}
use Rattle.trees.specs.Entries.{RightLayer, cell_key, value_listing, entry_listing, FitsLayers, RightValue, NewKey}
use Rattle.trees.specs.Layers.{Pointer, LayeredValue, Layered, bare_value, bare_entry, layer_root, pointer_of, value_reaches, layer_reaches}
use Rattle.trees.specs.Layers.{HoldsValue, HoldsLayer}
use Rattle.trees.specs.LayersPut.{height_in, layers_need}
use Rattle.trees.specs.LeafOfKey.{size_here, size_after_put}
use Rattle.trees.proofs.Nodes.{layer-order}
use Rattle.trees.proofs.Paths.{raised_ikey-lt, bytes_rest, down-length}
use Rattle.trees.proofs.EntriesPut.{short-class, same_key, fits_more, both-longer}
use Rattle.trees.proofs.Relinked.{layer-found}
use Rattle.order.specs.Map.{a[], ◌a∷◌, lookup}
use Rattle.order.specs.Options.{map_option, worth}
use Rattle.order.proofs.Changes.{worth-le, lookup-map, lookup-all}
use Rattle.order.proofs.Lists.{all-flattened}
use Rattle.order.specs.Lists.{total, flattened}
use Rattle.views.specs.Views.{nodes_view, Sound}
use Rattle.views.proofs.Nodes.{nodes_in}
use Rattle.views.proofs.LayerViews.{right_edge}
use Rattle.growth.proofs.Placed.{needed-is, missing-rests}
use Rattle.growth.proofs.Lent.{nodes-of}
use Rattle.growth.proofs.LayerKeys.{layers-chain}
use Rattle.places.proofs.Meets.{Way, missing, conflict, below}
use Rattle.places.proofs.Meets as way

-- the cells are those of memory, with the new key in cell c
module _ (m : Memory) (sound : Sound m) (at : ℕ → List ℕ × ℕ) (c : ℕ) where
  abbrev pub M : NodeList Pointer
  M = nodes_view m

  abbrev pub K : List ℕ
  K = cell_key at c

  -- what is known of a layer below the links of these ikeys, with l links more to come at most
  pub record Known (l : ℕ) (v : Layered l) (ks : List ℕ) : Type 0 where
    pub fits : FitsLayers at l ks K
    pub held : HoldsLayer 15 right_edge l M v
    pub good : RightLayer at l ks (map (bare_entry l) v.1)
    pub new : NewKey at c (flattened (entry_listing at l) (map (bare_entry l) v.1))
    pub once : (j : ℕ) → layer_reaches l v j + times_in (free_numbers 0 M) j ≤ 1
    pub deep : length ks + l ≡ 31

  pub key-small : (ks : List ℕ) → BelowLinks ks K → (layer_key ks K).0 < right_edge
  unfolding layer_key
  key-small ks u = raised_ikey-lt (bytes_rest ks K u)

  module _ (l : ℕ) (v : Layered l) (ks : List ℕ) (k : Known l v ks) where
    its-once : (j : ℕ) → any_reaches Pointer v.0 j ≤ 1
    its-once j = omega (arith, k.once j)

    pub high_is : height_in M (layer_root l v) ≡ v.0.0
    high_is = (layer-found 15 9 cut_place right_edge l M v (layer_key ks K) (key-small ks k.fits.0) k.held its-once).0

    pub found : (o : Option (LayeredValue l)) → lookup layer_order (layer_key ks K) v.1 ≡ o
        → memory_find Pointer (height_in M (layer_root l v)) (layer_key ks K) (0, layer_root l v) M ≡ map_option (pointer_of l) o
    found o q =
        ap (λ (d : ℕ). memory_find Pointer d (layer_key ks K) (0, layer_root l v) M) high_is
        ∙ (layer-found 15 9 cut_place right_edge l M v (layer_key ks K) (key-small ks k.fits.0) k.held its-once).2
        ∙ ap (map_option (pointer_of l)) q

    entry-good : (x : LayeredValue l) → lookup layer_order (layer_key ks K) v.1 ≡ some x
        → RightValue at l ks (layer_key ks K) (bare_value l x)
    entry-good x q =
        lookup-all layer_order (layer_key ks K) layer-order (RightValue at l ks) k.good.1 (bare_value l x)
        (lookup-map layer_order (layer_key ks K) (bare_value l) v.1 ∙ ap (map_option (bare_value l)) q)

    entry_new : (x : LayeredValue l) → lookup layer_order (layer_key ks K) v.1 ≡ some x → NewKey at c (value_listing at l (bare_value l x))
    entry_new x q =
        lookup-all layer_order (layer_key ks K) layer-order (λ y z. NewKey at c (value_listing at l z))
        (all-flattened (entry_listing at l) (map (bare_entry l) v.1) k.new) (bare_value l x)
        (lookup-map layer_order (layer_key ks K) (bare_value l) v.1 ∙ ap (map_option (bare_value l)) q)

    pub entry-counted : (x : LayeredValue l) → lookup layer_order (layer_key ks K) v.1 ≡ some x → (j : ℕ)
        → value_reaches l x j ≤ total (λ e. value_reaches l e.1 j) v.1
    entry-counted x q j = omega (
      arith,
      worth-le layer_order (layer_key ks K) (λ y. value_reaches l y j) v.1,
      ap (worth (λ y. value_reaches l y j)) q,
    )

    need-missing : need_in m.nodes (height_at m.nodes 255 (layer_root l v)) (layer_root l v) (entry_for K 0 (length ks)).ikey 1
        ≡ memory_needs Pointer 15 (height_in M (layer_root l v)) (layer_key ks K).0 (0, layer_root l v) M 1
    need-missing =
        needed-is m.nodes (nodes_in m) (nodes-of m sound).0 (nodes-of m sound).1 right_edge K ks 0 (key-small ks k.fits.0) v.0
        k.held.0 (λ j. omega (arith, k.once j))

  -- the layer below a link
  pub known-below : (l : ℕ) (v : Layered (suc l)) (ks : List ℕ) → Known (suc l) v ks → (w : Layered l)
      → lookup layer_order (layer_key ks K) v.1 ≡ some (inr w) → Known l w (path_down K ks)
  known-below l v ks k w q =
      let x = layer_key ks K in
      let g = entry-good (suc l) v ks k (inr w) q in
      record {
        fits = fits_more at l ks x.0 K k.fits (ap (λ (y : ℕ). (x.0, y)) g.0);
        held = lookup-all layer_order x layer-order (λ k v. HoldsValue 15 right_edge M (suc l) v) k.held.2 (inr w) q;
        good = (g.1, g.2);
        new = entry_new (suc l) v ks k (inr w) q;
        once = λ j. omega (arith, k.once j, entry-counted (suc l) v ks k (inr w) q j);
        deep = omega (arith, k.deep, down-length K ks (length ks) refl);
      }

  -- another key at the same ikey and class goes on, and so does this one
  pub record Conflicting (l : ℕ) (ks : List ℕ) (b : ℕ) : Type 0 where
    pub apart : K ≢ cell_key at b
    pub nine : layer_key ks K ≡ ((layer_key ks K).0, 9)
    pub fits_on : FitsLayers at l (path_down K ks) K
    pub other-on : FitsLayers at l (path_down K ks) (cell_key at b)

  pub conflicting : (l : ℕ) (v : Layered (suc l)) (ks : List ℕ) → Known (suc l) v ks → (b : ℕ)
      → lookup layer_order (layer_key ks K) v.1 ≡ some (inl b) → Conflicting l ks b
  conflicting l v ks k b q =
      let g = entry-good (suc l) v ks k (inl b) q in
      let ne = head (entry_new (suc l) v ks k (inl b) q) in
      let x : layer_key ks K ≡ ((layer_key ks K).0, 9) = both-longer at (suc l) ks K (cell_key at b) k.fits g.0 ne (sym g.1) in
      record {
        apart = ne;
        nine = x;
        fits_on = fits_more at l ks (layer_key ks K).0 K k.fits x;
        other-on = fits_more at l ks (layer_key ks K).0 (cell_key at b) g.0 (g.1 ∙ x);
      }
    where
      head : NewKey at c (at b ∷ []) → K ≢ cell_key at b
      head (p a∷ a[]) = p

  -- in the last layer there is none
  pub none_last : (v : Layered 0) (ks : List ℕ) → Known 0 v ks → (b : ℕ) → lookup layer_order (layer_key ks K) v.1 ≡ some b → ⊥
  none_last v ks k b q =
      let g = entry-good 0 v ks k b q in
      head (entry_new 0 v ks k b q) (same_key ks K (cell_key at b) k.fits.0 g.0.0 (sym g.1)
      (short-class (rest_below ks K) (omega (arith, k.fits.1))))
    where
      head : NewKey at c (at b ∷ []) → K ≢ cell_key at b
      head (p a∷ a[]) = p

  -- ---- the nodes that the put needs

  module _ (agree : (j : ℕ) → 1 ≤ mark_at m.cells j → cell_key at j ≡ key_at m.cells m.bytes j) where
    pub way-need : {l : ℕ} {v : Layered l} {ks : List ℕ} {holder : ℕ} {o : Met} → Way m K l v ks holder o → is_stored o ≡ false
        → Known l v ks
        → needed_at m K o ≡ layers_need 15 at K l ks (layer_root l v) M
    way-need (missing zero v ks holder q) s k = need-missing zero v ks k
    way-need (missing (suc l) v ks holder q) s k = rw (found (suc l) v ks k none q) (need-missing (suc l) v ks k)
    way-need (way.stored l v ks holder lf p b q E w e) s k = let z : ◌≡◌ {A = ℕ} 0 1 = cc in absurd (omega arith)
    way-need (conflict zero v ks holder lf p b q E w n) s k = absurd (none_last v ks k b q)
    way-need (conflict (suc l) v ks holder lf p b q E w n) s k =
        let C = conflicting l v ks k b q in
        let z : 31 - suc (length ks) ≡ l = omega (arith, k.deep) in
        rw (found (suc l) v ks k (some (inl b)) q, z, ← agree b w.marked)
        (ap (layers_of l K (cell_key at b)) (sym (down-length K ks (length ks) refl))
        ∙ layers-chain at K (cell_key at b) C.apart l (path_down K ks) C.fits_on C.other-on)
    way-need (below l v ks holder lf p x o q E rest_below) s k =
        rw (found (suc l) v ks k (some (inr x)) q) (way-need rest_below s (known-below l v ks k x q))

  -- ---- how many slots rest where its entry is

  rests-missing : (l : ℕ) (v : Layered l) (ks : List ℕ) → Known l v ks → lookup layer_order (layer_key ks K) v.1 ≡ none
      → layer_rests m.nodes (nodes_in m) (layer_root l v) (entry_for K c (length ks)) ≡ rest_of (size_here K 15 cut_place c l ks v)
  rests-missing l v ks k q =
      missing-rests m.nodes (nodes_in m) (nodes-of m sound).0 (nodes-of m sound).1 right_edge K ks c (key-small ks k.fits.0) v.0
      k.held.0 (λ j. omega (arith, k.once j))
      (ap (lookup layer_order (layer_key ks K)) k.held.1 ∙ lookup-map layer_order (layer_key ks K) (pointer_of l) v.1
      ∙ ap (map_option (pointer_of l)) q)

  pub way-passed : {l : ℕ} {v : Layered l} {ks : List ℕ} {holder : ℕ} {o : Met} → c ≡ fresh_cell m → Way m K l v ks holder o
      → is_stored o ≡ false → Known l v ks → rests_passed m K o ≡ rest_of (size_after_put K 15 cut_place c l ks v)
  way-passed f (missing zero v ks holder q) s k = rw (← f) (rests-missing zero v ks k q)
  way-passed f (missing (suc l) v ks holder q) s k = rw (← f, q) (rests-missing (suc l) v ks k q)
  way-passed f (way.stored l v ks holder lf p b q E w e) s k = let z : ◌≡◌ {A = ℕ} 0 1 = cc in absurd (omega arith)
  way-passed f (conflict zero v ks holder lf p b q E w n) s k = absurd (none_last v ks k b q)
  way-passed f (conflict (suc l) v ks holder lf p b q E w n) s k = rw q
  way-passed f (below l v ks holder lf p x o q E rest) s k = rw q (way-passed f rest s (known-below l v ks k x q))
