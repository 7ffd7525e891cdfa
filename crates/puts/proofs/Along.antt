-- The way of a new key through memory that is a tree, whatever cell is taken for it: what is known of the first layer, the nodes that the
-- put needs, and what it writes. Assumes nothing.
use mathlib.Core.Path.{◌≡◌, refl, sym, ap, ◌∙◌, subst}
use mathlib.Core.Logic.{◌≢◌}
use mathlib.Core.Bool.{false}
use mathlib.Core.List.{List, []}
use mathlib.Core.Option.{Option, none, some}
use Prim.Native.Nat.{ℕ, ◌+◌, ◌≤◌, ◌<◌}
use native.Mathlib.Omega.{arith}
use lib.ListN.{length}
use Rattle.order.specs.Bytes.{Bytes, bytewise}
use Rattle.order.specs.Map.{All, lookup}
use Rattle.order.proofs.Bytes.{bytewise-order}
use Rattle.order.proofs.Lookup.{lookup-new}
use Rattle.arena.specs.Layout as layout
use Rattle.arena.specs.Layout.{mark_at, key_at}
use Rattle.arena.specs.Memory.{Memory}
use Rattle.forest.specs.IsTree.{Layers, Forest, listing}
use Rattle.model.specs.Leaves.{rest_of}
use Rattle.model.specs.Calls.{fresh_cell, place, stored, needed_at, nodes_with, rests_passed}
use Rattle.trees.specs.Nodes.{NodeList}
use Rattle.trees.specs.FreeNumbers.{free_numbers, times_in}
use Rattle.trees.specs.Cut.{cut_place}
use Rattle.trees.specs.Entries.{cell_key, FitsLayers}
use Rattle.trees.specs.Cells.{cell_at}
use Rattle.trees.specs.Layers.{Pointer, Layered, layer_reaches}
use Rattle.trees.specs.LayersPut.{layers_put, layers_need}
use Rattle.trees.specs.LeafOfKey.{size_after_put}
use Rattle.trees.specs.WholeTree.{bare_entries, layer_uses, layer_listing}
use Rattle.trees.proofs.CellsUsed.{layer-listing-same, right-layer-same}
use Rattle.trees.proofs.WholeTree.{ones_below-le, fits-first-layer}
use Rattle.trees.proofs.WholeCalls.{whole-sorted}
use Rattle.views.specs.Views.{nodes_view, cells_view, layer_view, Sound}
use Rattle.views.proofs.Nodes.{nodes_in, cells_in}
use Rattle.views.proofs.LayerViews.{right_edge}
use Rattle.views.proofs.Whole.{ViewIsTree, sound-of, to-trees, listing-view}
use Rattle.places.proofs.Meets.{Way}
use Rattle.places.proofs.Seen.{place-way}
use Rattle.places.proofs.Found.{is_some, stored-lookup}
use Rattle.puts.proofs.Layers.{Known, way-need, way-passed}
use Rattle.puts.proofs.Ways.{Put, way-put}

none_of : {A : Type 0} (o : Option A) → is_some o ≡ false → o ≡ none
none_of none e = refl
none_of (some x) e = let z : ◌≡◌ {A = ℕ} 0 1 = cc in absurd (omega arith)

module _ (m : Memory) (v : Layers) (t : Forest m v) (bytes : Bytes m.bytes) (K : List ℕ) (b : Bytes K) (short : length K ≤ 256)
    (absent : stored m K ≡ false) where
  abbrev w : Layered 31
  w = layer_view 31 v

  abbrev M : NodeList Pointer
  M = nodes_view m

  abbrev s : Sound m
  s = sound-of m v t

  abbrev seen : ViewIsTree m w
  seen = to-trees m v t bytes

  pub once : (j : ℕ) → layer_reaches 31 w j + times_in (free_numbers 0 M) j ≤ 1
  once j = omega (arith, seen.nodes j, ones_below-le (nodes_in m) j)

  -- ---- the key is new

  absent-listed : lookup bytewise K (layer_listing 31 (cells_view m) w) ≡ none
  absent-listed =
      ap (lookup bytewise K) (sym (listing-view m v t))
      ∙ none_of (lookup bytewise K (listing m v)) (sym (stored-lookup m v t bytes K b) ∙ absent)

  pub new : All (λ e. K ≢ e.0) (layer_listing 31 (cells_view m) w)
  new = lookup-new bytewise-order K (whole-sorted 15 9 cut_place right_edge 31 (nodes_in m) (cells_in m) M (cells_view m)
      (layout.root_of m.nodes) w seen) absent-listed

  -- ---- with the key in cell c, and the cells in use as they are in memory

  module _ (at : ℕ → List ℕ × ℕ) (c : ℕ) (key-is : cell_key at c ≡ K)
      (used-same : (j : ℕ) → 0 < layer_uses 31 w j → at j ≡ cell_at (cells_view m) j)
      (agree : (j : ℕ) → 1 ≤ mark_at m.cells j → cell_key at j ≡ key_at m.cells m.bytes j) where
    pub known : Known m s at c 31 w []
    known = record {
      fits = subst (λ (J : List ℕ). FitsLayers at 31 [] J) (sym key-is) (fits-first-layer at 31 K b short);
      held = seen.holds;
      good = (seen.good.0, right-layer-same (cell_at (cells_view m)) at 31 [] used-same seen.good.1);
      new = subst (λ (xs : List (List ℕ × ℕ)). All (λ e. cell_key at c ≢ e.0) xs)
          (sym (layer-listing-same (cell_at (cells_view m)) at 31 (bare_entries 31 w) used-same))
          (subst (λ (J : List ℕ). All (λ e. J ≢ e.0) (layer_listing 31 (cells_view m) w)) (sym key-is) new);
      once = once;
      deep = refl;
    }

    -- what is needed and what is written, of the key as the cell has it, and then of the key
    abbrev pub Along : List ℕ → ℕ → Type 0
    Along J r =
        (needed_at m J (place m K) ≡ layers_need 15 at J 31 [] r M)
        × (layers_need 15 at J 31 [] r M ≤ length (free_numbers 0 M)
        → Put m s at c 31 w 0 (nodes_with m J c (place m K)) (layers_put 15 9 cut_place at J c 31 [] r M))

    pub along : Along K (layout.root_of m.nodes)
    along =
        let W = subst (λ (J : List ℕ). Way m J 31 w [] 0 (place m K)) (sym key-is) (place-way m s w seen K b) in
        subst (λ (J : List ℕ). Along J (layout.root_of m.nodes)) key-is
        (subst (λ (r : ℕ). Along (cell_key at c) r) seen.rooted
        (way-need m s at c agree W absent known, way-put m s at c agree W absent known))

    -- and how many slots are passed up as those that rest
    pub passed : c ≡ fresh_cell m → rests_passed m K (place m K) ≡ rest_of (size_after_put K 15 cut_place c 31 [] w)
    passed f =
        let W = subst (λ (J : List ℕ). Way m J 31 w [] 0 (place m K)) (sym key-is) (place-way m s w seen K b) in
        subst (λ (J : List ℕ). rests_passed m J (place m K) ≡ rest_of (size_after_put J 15 cut_place c 31 [] w)) key-is
        (way-passed m s at c f W absent known)
