-- Find: what is found in lent memory is what its sorted map has. Assumes nothing.
use mathlib.Core.Path.{◌≡◌, refl, sym, ap, ◌∙◌, subst}
use mathlib.Core.Logic.{inr, ◌≢◌}
use mathlib.Core.Bool.{Bool, true, false}
use mathlib.Core.List.{List, [], ◌∷◌, map}
use mathlib.Core.Option.{Option, none, some}
use Prim.Native.Nat.{ℕ, zero, suc, ◌≤◌, Ordering}
use native.Mathlib.Omega.{arith}
use lib.Dec.{T}
use Rattle.order.specs.Bytes.{Bytes, bytewise}
use Rattle.order.specs.Map as order
use Rattle.arena.specs.Layout as layout
use Rattle.arena.specs.Layout.{mark_at, frame_at, key_at}
use Rattle.arena.specs.Memory.{Memory}
use Rattle.forest.specs.IsTree.{Layers, Forest, listing}
use Rattle.model.specs.Calls.{place, stored, is_stored, frame_of}
use Rattle.model.specs.declared.Met.{Met}
use Rattle.model.specs.declared.Met.TheVariants.{Stored, Conflict, Missing}
use Rattle.order.proofs.Bytes.{bytewise-exact, bytewise-same}
use Rattle.trees.specs.Nodes.{IkeyClass, layer_order}
use Rattle.trees.specs.Paths.{BelowLinks, layer_key}
use Rattle.trees.specs.Entries.{RightLayer, cell_key}
use Rattle.trees.specs.EntriesFound.{through, cell_asked, value_find, entries_find}
use Rattle.trees.specs.Cells.{cell_at}
use Rattle.trees.specs.Layers.{LayeredValue, Layered, layered_cell, bare_value, bare_entry, layer_root, layer_reaches, HoldsLayer}
use Rattle.trees.specs.LayersFound.{layers_find}
use Rattle.trees.proofs.Paths.{raised_ikey-lt}
use Rattle.trees.proofs.FindThroughLayers.{layers_find-is}
use Rattle.trees.proofs.WholeTree.{ones_below-le, below-no-links}
use Rattle.trees.proofs.WholeCalls.{whole-sorted, whole-find}
use Rattle.order.specs.Map.{pick, lookup}
use Rattle.order.specs.Options.{map_option}
use Rattle.order.proofs.Changes.{lookup-map}
use Rattle.views.specs.Views.{nodes_view, cells_view, layer_view}
use Rattle.views.proofs.Nodes.{nodes_in, cells_in}
use Rattle.views.proofs.LayerViews.{right_edge}
use Rattle.views.proofs.Whole.{sound-of, to-trees, listing-view}
use Rattle.places.proofs.Meets.{Way, missing, conflict, below}
use Rattle.places.proofs.Meets as way
use Rattle.places.proofs.Seen.{seen_key, seen-frame, place-way}

-- the cell of a place that has the key
abbrev pub cell_of : Met → Option ℕ
cell_of (Stored leaf position cell) = some cell
cell_of (Conflict leaf position cell links) = none
cell_of (Missing holder root links) = none

-- an option as a list of one or none
abbrev pub as_list : {A : Type 0} → Option A → List A
as_list none = []
as_list (some x) = x ∷ []

abbrev pub is_some : {A : Type 0} → Option A → Bool
is_some none = false
is_some (some x) = true

-- ---- the way, and the trees' search

module _ (m : Memory) (K : List ℕ) (at : ℕ → List ℕ × ℕ) (agree : (c : ℕ) → (at c).0 ≡ key_at m.cells m.bytes c) where
  spot-one : (l : ℕ) (ks : List ℕ) (c : ℕ) → value_find at K l ks (bare_value l (layered_cell l c)) ≡ cell_asked at K c
  spot-one zero ks c = refl
  spot-one (suc l) ks c = refl

  asked-same : (c : ℕ) → key_at m.cells m.bytes c ≡ K → cell_asked at K c ≡ some c
  asked-same c e = rw (agree c ∙ e, bytewise-same K)

  asked-other : (c : ℕ) → key_at m.cells m.bytes c ≢ K → cell_asked at K c ≡ none
  asked-other c n = go (bytewise K (cell_key at c)) (bytewise-exact K (cell_key at c))
    where
      go : (o : Ordering) → (o ≡ Ordering.eq → K ≡ cell_key at c) → pick o none (some c) none ≡ none
      go Ordering.lt f = refl
      go Ordering.eq f = absurd (n (sym (agree c) ∙ sym (f refl)))
      go Ordering.gt f = refl

  look : (l : ℕ) (v : Layered l) (k : IkeyClass) (o : Option (LayeredValue l)) → lookup layer_order k v.1 ≡ o
      → lookup layer_order k (map (bare_entry l) v.1) ≡ map_option (bare_value l) o
  look l v k o q = lookup-map layer_order k (bare_value l) v.1 ∙ ap (map_option (bare_value l)) q

  pub way-spot : {l : ℕ} {v : Layered l} {ks : List ℕ} {holder : ℕ} {o : Met} → Way m K l v ks holder o
      → entries_find at K l ks (map (bare_entry l) v.1) ≡ cell_of o
  way-spot (missing l v ks holder q) = ap (through (value_find at K l ks)) (look l v (layer_key ks K) none q)
  way-spot (way.stored l v ks holder lf p c q E w e) =
      ap (through (value_find at K l ks)) (look l v (layer_key ks K) (some (layered_cell l c)) q) ∙ spot-one l ks c ∙ asked-same c e
  way-spot (conflict l v ks holder lf p c q E w n) =
      ap (through (value_find at K l ks)) (look l v (layer_key ks K) (some (layered_cell l c)) q) ∙ spot-one l ks c ∙ asked-other c n
  way-spot (below l v ks holder lf p x o q E rest) =
      ap (through (value_find at K (suc l) ks)) (look (suc l) v (layer_key ks K) (some (inr x)) q) ∙ way-spot rest

  module _ (frames : (c : ℕ) → 1 ≤ mark_at m.cells c → (at c).1 ≡ frame_at m.cells c) where
    pub way-frame : {l : ℕ} {v : Layered l} {ks : List ℕ} {holder : ℕ} {o : Met} → Way m K l v ks holder o
        → as_list (map_option (λ b. (at b).1) (cell_of o)) ≡ frame_of m o
    way-frame (missing l v ks holder q) = refl
    way-frame (way.stored l v ks holder lf p c q E w e) = ap (λ (f : ℕ). f ∷ []) (frames c w.marked)
    way-frame (conflict l v ks holder lf p c q E w n) = refl
    way-frame (below l v ks holder lf p x o q E rest) = way-frame rest

-- in any layer: the trees' search finds the cell that has the key, or nothing
module _ (m : Memory) (K : List ℕ) (at : ℕ → List ℕ × ℕ) (agree : (c : ℕ) → (at c).0 ≡ key_at m.cells m.bytes c) where
  pub way-found : {l : ℕ} {v : Layered l} {ks : List ℕ} {holder : ℕ} {o : Met} → Way m K l v ks holder o → BelowLinks ks K
      → HoldsLayer 15 right_edge l (nodes_view m) v
      → RightLayer at l ks (map (bare_entry l) v.1) → ((j : ℕ) → layer_reaches l v j ≤ 1)
      → layers_find at K l ks (layer_root l v) (nodes_view m) ≡ cell_of o
  way-found {l} {v} {ks} W uk H G u =
      layers_find-is 15 0 (λ e. 0) right_edge at (λ K b. raised_ikey-lt b) K l ks (nodes_view m) v uk H G u ∙ way-spot m K at agree W

-- the cell of a place that has the key is in use
abbrev pub Marked : Memory → Met → Type 0
Marked m (Stored leaf position cell) = 1 ≤ mark_at m.cells cell
Marked m (Conflict leaf position cell links) = Unit {0}
Marked m (Missing holder root links) = Unit {0}

pub way-marked : (m : Memory) (K : List ℕ) {l : ℕ} {v : Layered l} {ks : List ℕ} {holder : ℕ} {o : Met} → Way m K l v ks holder o
    → T (is_stored o) → Marked m o
way-marked m K (missing l v ks holder q) t = tt
way-marked m K (way.stored l v ks holder lf p c q E w e) t = w.marked
way-marked m K (conflict l v ks holder lf p c q E w n) t = tt
way-marked m K (below l v ks holder lf p x o q E rest) t = way-marked m K rest t

-- and has the key
abbrev pub HasKey : Memory → List ℕ → Met → Type 0
HasKey m K (Stored leaf position cell) = key_at m.cells m.bytes cell ≡ K
HasKey m K (Conflict leaf position cell links) = Unit {0}
HasKey m K (Missing holder root links) = Unit {0}

pub way-key : (m : Memory) (K : List ℕ) {l : ℕ} {v : Layered l} {ks : List ℕ} {holder : ℕ} {o : Met} → Way m K l v ks holder o
    → T (is_stored o) → HasKey m K o
way-key m K (missing l v ks holder q) t = tt
way-key m K (way.stored l v ks holder lf p c q E w e) t = e
way-key m K (conflict l v ks holder lf p c q E w n) t = tt
way-key m K (below l v ks holder lf p x o q E rest) t = way-key m K rest t

-- ---- find, and the listing

module _ (m : Memory) (v : Layers) (t : Forest m v) (bytes : Bytes m.bytes) where
  abbrev its_view : Layered 31
  its_view = layer_view 31 v

  module _ (K : List ℕ) (b : Bytes K) where
    -- the trees' search from the root finds the cell of the key's place
    pub find-view : layers_find (cell_at (cells_view m)) K 31 [] (layout.root_of m.nodes) (nodes_view m) ≡ cell_of (place m K)
    find-view =
        let T = to-trees m v t bytes in
        let s = sound-of m v t in
        ap (λ (r : ℕ). layers_find (cell_at (cells_view m)) K 31 [] r (nodes_view m)) (sym T.rooted)
        ∙ way-found m K (cell_at (cells_view m)) (seen_key m s) (place-way m s its_view T K b) (below-no-links K b) T.holds T.good
        (λ j. omega (arith, T.nodes j, ones_below-le (nodes_in m) j))

    found : map_option (λ c. (cell_at (cells_view m) c).1) (cell_of (place m K)) ≡ lookup bytewise K (listing m v)
    found =
        let T = to-trees m v t bytes in
        ap (map_option (λ c. (cell_at (cells_view m) c).1)) (sym find-view)
        ∙ whole-find 15 0 (λ e. 0) right_edge 31 (nodes_in m) (cells_in m) (λ K b. raised_ikey-lt b) (nodes_view m) (cells_view m)
        (layout.root_of m.nodes) its_view T K b
        ∙ ap (lookup bytewise K) (sym (listing-view m v t))

    -- the key is stored exactly where the map has it
    pub stored-lookup : stored m K ≡ is_some (lookup bytewise K (listing m v))
    stored-lookup = go (place m K) ∙ ap is_some found
      where
        go : (o : Met) → is_stored o ≡ is_some (map_option (λ c. (cell_at (cells_view m) c).1) (cell_of o))
        go (Stored leaf position cell) = refl
        go (Conflict leaf position cell links) = refl
        go (Missing holder root links) = refl

    -- and its frame is the one that the map has
    pub frame-lookup : frame_of m (place m K) ≡ as_list (lookup bytewise K (listing m v))
    frame-lookup =
        let T = to-trees m v t bytes in
        let s = sound-of m v t in
        sym (way-frame m K (cell_at (cells_view m)) (seen_key m s) (seen-frame m s) (place-way m s its_view T K b)) ∙ ap as_list found

  -- the listing strictly rises
  pub listing-rises : order.Rising (listing m v)
  listing-rises =
      subst order.Rising (sym (listing-view m v t))
      (whole-sorted 15 0 (λ e. 0) right_edge 31 (nodes_in m) (cells_in m) (nodes_view m) (cells_view m) (layout.root_of m.nodes) its_view
      (to-trees m v t bytes))
