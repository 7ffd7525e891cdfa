-- Which nodes the steps give back: of the layers on the key's way, from the last upward and without the first, those that are one leaf, the
-- last without entries, each further one with the link alone. Assumes nothing.
use mathlib.Core.Path.{◌≡◌, refl, sym, ap, ◌∙◌, subst}
use mathlib.Core.Bool.{Bool, true, false, cond}
use mathlib.Core.Logic.{inr}
use mathlib.Core.List.{List, [], ◌∷◌, ◌++◌, map}
use mathlib.Core.Option.{Option, none, some}
use Prim.Native.Nat.{ℕ, zero, suc, ◌+◌, ◌-◌, ◌*◌, ◌%◌, ◌≤◌}
use native.Mathlib.Omega.{arith}
use lib.Dec.{T}
use lib.ListN.{length, get_or, length-map}
use borrow.Author.Tests.{eqb-true, eq-eqb, ne_eqb, lt-ltb}
use Rattle.order.specs.Bytes.{Bytes}
use Rattle.order.specs.Layer.{ikey_at, class_at}
use Rattle.order.specs.Map.{lookup}
use Rattle.leaf.specs.Search.{place_equal}
use Rattle.arena.specs.Layout.{node_start, word_at}
use Rattle.arena.specs.Memory.{Memory}
use Rattle.forest.specs.Nodes.{entries_at}
use Rattle.forest.specs.Trees.{seen_as}
use Rattle.forest.specs.IsTree.{Layers, IsTree}
use Rattle.forest.proofs.InUse.{entries-length}
use Rattle.model.specs.Meet.{number_word}
use Rattle.model.specs.declared.Met.{Met}
use Rattle.model.specs.GivenBack.{node_of_word, link_place, empty_leaf, empty_layer, to_give_back, given_back, all_given_back}
use Rattle.model.specs.Calls.{place}
use Rattle.trees.specs.Nodes.{IkeyClass, layer_order, NodeList}
use Rattle.trees.specs.FreeNumbers.{free_numbers, times_in}
use Rattle.trees.specs.Cut.{cut_place}
use Rattle.trees.specs.Cells.{cell_at}
use Rattle.trees.specs.Entries.{RightLayer, from_option}
use Rattle.trees.specs.Tree.{AnyTree, any_root, HoldsAny}
use Rattle.trees.specs.Paths.{BelowLinks, layer_key, path_down}
use Rattle.trees.specs.Layers.{Pointer, link, LayeredValue, Layered, layered_cell, bare_entry, layer_root, pointer_entry}
use Rattle.trees.specs.Layers.{layer_reaches, HoldsLayer}
use Rattle.trees.proofs.Paths.{down-length}
use Rattle.trees.proofs.WholeTree.{ones_below-le, below-no-links}
use Rattle.views.specs.Views.{entry_view, nodes_view, cells_view, layer_view, Sound}
use Rattle.views.proofs.Nodes.{nodes_in}
use Rattle.views.proofs.LayerViews.{right_edge}
use Rattle.views.proofs.Whole.{sound-of, to-trees, lengths}
use Rattle.places.proofs.Down.{leaf-words}
use Rattle.places.proofs.Looks.{seen-node}
use Rattle.places.proofs.Meets.{Entered, Way, missing, conflict, below}
use Rattle.places.proofs.Meets as way
use Rattle.places.proofs.Seen.{place-way}
use Rattle.places.proofs.LeafLess.{gone-layer}
use Rattle.index_given_back.specs.GaveBack.{missing_in, nodes_back}
use Rattle.index_given_back.proofs.Upward.{trees_at, trees_up, leaf_with, Shorter, shorter, one_fewer}
use Rattle.index_given_back.proofs.Ways.{fit}
use Rattle.index_given_back.proofs.Step.{links_to, Stepped, step_back, word-node}
use Rattle.index_given_back.proofs.All.{ended, none-by}

-- ---- given back, of the trees on the way from the last to that of the first layer, which stays

-- the roots of those at the front that are one leaf, the first with so many entries, each further one with one
abbrev pub given_in : ℕ → List (AnyTree Pointer) → List ℕ
given_in n [] = []
given_in n (t ∷ []) = []
given_in n (t ∷ u ∷ us) = cond (leaf_with n t) (any_root Pointer t ∷ given_in 1 (u ∷ us)) []

-- an entry less at the front
given-same : (y y' : AnyTree Pointer) (zs : List (AnyTree Pointer)) → any_root Pointer y' ≡ any_root Pointer y → leaf_with 0 y' ≡ leaf_with 1 y
    → given_in 0 (y' ∷ zs) ≡ given_in 1 (y ∷ zs)
given-same y y' [] r e = refl
given-same y y' (z ∷ zs) r e = rw (r, e) refl

-- the first is given back, and then the others
given-less : (n : ℕ) (ns : List ℕ) {us us' : List (AnyTree Pointer)} → Shorter n us us' → ns ≡ given_in 0 us' → n ∷ ns ≡ given_in 0 us
given-less n ns (shorter y y' zs r e) f = ap (λ (ks : List ℕ). n ∷ ks) (f ∙ given-same y y' zs r e)

-- ---- layers that stay

-- the first of these trees is no empty leaf
abbrev FullFront : List (AnyTree Pointer) → Type 0
FullFront us = (t : AnyTree Pointer) × (ts : List (AnyTree Pointer)) × (us ≡ t ∷ ts) × (leaf_with 0 t ≡ false)

full-under : (t : AnyTree Pointer) (us : List (AnyTree Pointer)) → FullFront us → FullFront (us ++ t ∷ [])
full-under t us (y, ys, e, f) = (y, ys ++ t ∷ [], ap (λ (us : List (AnyTree Pointer)). us ++ t ∷ []) e, f)

-- where it is none, nothing is given back
given-full : (us : List (AnyTree Pointer)) (u : AnyTree Pointer) → FullFront us → given_in 0 (us ++ u ∷ []) ≡ []
given-full us u (t, ts, e, f) = ap (λ (us : List (AnyTree Pointer)). given_in 0 (us ++ u ∷ [])) e ∙ go ts
  where
    go : (ts : List (AnyTree Pointer)) → given_in 0 ((t ∷ ts) ++ u ∷ []) ≡ []
    go [] = rw f refl
    go (s ∷ ts) = rw f refl

-- a layer with an entry is no empty leaf
some-full : (M : NodeList Pointer) (l : ℕ) (x : Layered l) (k : IkeyClass) (y : LayeredValue l) → HoldsLayer 15 right_edge l M x
    → lookup layer_order k x.1 ≡ some y → leaf_with 0 x.0 ≡ false
some-full M l ((zero, (r, es)), ds) k y H q =
    ne_eqb (length es) 0 (λ z. omega (arith, one_fewer k y ds q, ap length H.1, length-map ds (pointer_entry l)))
some-full M l ((suc d, t), ds) k y H q = refl

-- a cell leads to no layer
cell-trees : (K : List ℕ) (l : ℕ) (ks : List ℕ) (c : ℕ) → trees_at K l ks (layered_cell l c) ≡ []
cell-trees K zero ks c = refl
cell-trees K (suc l) ks c = refl

module _ (m : Memory) (v₀ : Layers) (t₀ : IsTree m v₀) (bytes : Bytes m.bytes) (K : List ℕ) (b : Bytes K) where
  s : Sound m
  s = sound-of m v₀ t₀.forest

  whole : length m.nodes ≡ 2 + nodes_in m * 47
  whole = (lengths m s.lent).nodes-whole

  few : nodes_in m ≤ 255
  few = (lengths m s.lent).n-high

  abbrev M : NodeList Pointer
  M = nodes_view m

  abbrev at : ℕ → List ℕ × ℕ
  at = cell_at (cells_view m)

  -- the words of an empty leaf
  empty-words : (t : AnyTree Pointer) → HoldsAny Pointer 15 right_edge M t → leaf_with 0 t ≡ true
      → (word_at m.nodes (any_root Pointer t) 0 ≡ 1) × (word_at m.nodes (any_root Pointer t) 1 % 16 ≡ 0)
  empty-words (zero, (r, es)) H e =
      let (kind, seen) = leaf-words m.nodes M (seen-node m whole) r es H.1 in
      let z : node_start r + 0 ≡ node_start r = omega arith in (
        ap (λ (i : ℕ). get_or m.nodes i 0) z ∙ kind,
        omega (
          arith,
          eqb-true (length es) 0 e,
          ap length seen,
          length-map (entries_at m.nodes r) (λ e. entry_view (seen_as e)),
          entries-length m.nodes r (word_at m.nodes r 1) refl,
        ),
      )
  empty-words (suc d, t) H e = let z : ◌≡◌ {A = ℕ} 0 1 = cc in absurd (omega arith)

  module _ (l : ℕ) (v : Layered (suc l)) (ks : List ℕ) (uk : BelowLinks ks K) (H : HoldsLayer 15 right_edge (suc l) M v)
      (G : RightLayer at (suc l) ks (map (bare_entry (suc l)) v.1))
      (u : (j : ℕ) → layer_reaches (suc l) v j + times_in (free_numbers 0 M) j ≤ 1) (lf p : ℕ) (x : Layered l)
      (q : lookup layer_order (layer_key ks K) v.1 ≡ some (inr x))
      (E : Entered m K (layer_root (suc l) v) (length ks) lf p (link (layer_root l x))) where
    -- where the layer below a link is one empty leaf, it is to give back
    empty-goes : leaf_with 0 x.0 ≡ true
        → empty_layer m.nodes K (number_word m.nodes lf p) (layer_root l x) (length (path_down K ks)) ≡ true
    unfolding empty_layer empty_leaf
    empty-goes e =
        let F = fit m K whole few at l v ks uk H G u x q in
        let L = (gone-layer m K whole few 9 cut_place at (suc l) v ks uk H (λ j. omega (arith, u j)) lf p (link (layer_root l x)) E).1 in
        let (kind, size) = empty-words x.0 F.has.0 e in
        let deep : length (path_down K ks) ≡ suc (length ks) = down-length K ks (length ks) refl in
        let up : length (path_down K ks) - 1 ≡ length ks = omega arith in
        let n : node_of_word (number_word m.nodes lf p) ≡ lf = word-node m v₀ t₀ bytes K b lf p L in
        let place_is : link_place m.nodes K lf (length (path_down K ks)) ≡ p =
        ap (λ (i : ℕ). place_equal (ikey_at K (8 * i)) (class_at K (8 * i)) (entries_at m.nodes lf)) up ∙ sym E.place_is in
        rw (
          lt-ltb 0 (length (path_down K ks)) (omega arith),
          eq-eqb (word_at m.nodes (layer_root l x) 0) 1 kind,
          eq-eqb (word_at m.nodes (layer_root l x) 1 % 16) 0 size,
          lt-ltb 1 (number_word m.nodes lf p) (omega arith),
          n,
          place_is,
        )
        (lt-ltb p (word_at m.nodes lf 1 % 16) (omega (arith, E.inside, entries-length m.nodes lf (word_at m.nodes lf 1) refl)))

    here-full : lookup layer_order (layer_key (path_down K ks) K) x.1 ≡ none
        → empty_layer m.nodes K (number_word m.nodes lf p) (layer_root l x) (length (path_down K ks)) ≡ false
        → FullFront (trees_up K l x (path_down K ks))
    here-full e f = (
      x.0,
      [],
      ap (λ (o : Option (LayeredValue l)). from_option [] (trees_at K l (path_down K ks)) o ++ x.0 ∷ []) e,
      go (leaf_with 0 x.0) refl,
    )
      where
        go : (c : Bool) → leaf_with 0 x.0 ≡ c → c ≡ false
        go false d = refl
        go true d = let z : ◌≡◌ {A = ℕ} 0 1 = cc (empty-goes d) in absurd (omega arith)

    cell_full : (c : ℕ) → lookup layer_order (layer_key (path_down K ks) K) x.1 ≡ some (layered_cell l c)
        → FullFront (trees_up K l x (path_down K ks))
    cell_full c e =
        let F = fit m K whole few at l v ks uk H G u x q in (
          x.0,
          [],
          ap (λ (o : Option (LayeredValue l)). from_option [] (trees_at K l (path_down K ks)) o ++ x.0 ∷ []) e
              ∙ ap (λ (us : List (AnyTree Pointer)). us ++ x.0 ∷ []) (cell-trees K l (path_down K ks) c),
          some-full M l x (layer_key (path_down K ks) K) (layered_cell l c) F.has e,
        )

  -- below a link, where nothing is to give back, the last layer on the way is no empty leaf
  full-below : (l : ℕ) (v : Layered (suc l)) (ks : List ℕ) → BelowLinks ks K → HoldsLayer 15 right_edge (suc l) M v
      → RightLayer at (suc l) ks (map (bare_entry (suc l)) v.1)
      → ((j : ℕ) → layer_reaches (suc l) v j + times_in (free_numbers 0 M) j ≤ 1)
      → (lf p : ℕ) (x : Layered l) → lookup layer_order (layer_key ks K) v.1 ≡ some (inr x)
      → Entered m K (layer_root (suc l) v) (length ks) lf p (link (layer_root l x))
      → {o : Met} → Way m K l x (path_down K ks) (number_word m.nodes lf p) o → to_give_back m.nodes K o ≡ false
      → FullFront (trees_up K l x (path_down K ks))
  full-below zero v ks uk H G u lf p x q E (missing _ _ _ _ e) f = here-full zero v ks uk H G u lf p x q E e f
  full-below zero v ks uk H G u lf p x q E (way.stored _ _ _ _ _ _ c e _ _ _) f = cell_full zero v ks uk H G u lf p x q E c e
  full-below zero v ks uk H G u lf p x q E (conflict _ _ _ _ _ _ c e _ _ _) f = cell_full zero v ks uk H G u lf p x q E c e
  full-below (suc l) v ks uk H G u lf p x q E (missing _ _ _ _ e) f = here-full (suc l) v ks uk H G u lf p x q E e f
  full-below (suc l) v ks uk H G u lf p x q E (way.stored _ _ _ _ _ _ c e _ _ _) f = cell_full (suc l) v ks uk H G u lf p x q E c e
  full-below (suc l) v ks uk H G u lf p x q E (conflict _ _ _ _ _ _ c e _ _ _) f = cell_full (suc l) v ks uk H G u lf p x q E c e
  full-below (suc l) v ks uk H G u lf p x q E (below _ _ _ _ lf' p' y o q' E' rest) f =
      let F = fit m K whole few at (suc l) v ks uk H G u x q in
      subst FullFront
      (sym (ap (λ (o : Option (LayeredValue (suc l))). from_option [] (trees_at K (suc l) (path_down K ks)) o ++ x.0 ∷ []) q'))
      (full-under x.0 (trees_up K l y (path_down K (path_down K ks)))
      (full-below l x (path_down K ks) F.under F.has F.right F.once lf' p' y q' E' rest f))

  -- ---- what the steps give back, read off the trees on the way

  -- where nothing is to give back, nothing is
  none-given : {o : Met} → Way m K 31 (layer_view 31 v₀) [] 0 o → to_give_back m.nodes K o ≡ false
      → given_in 0 (trees_up K 31 (layer_view 31 v₀) []) ≡ []
  none-given (missing _ _ _ _ e) f =
      ap (λ (o : Option (LayeredValue 31)). given_in 0 (from_option [] (trees_at K 31 []) o ++ (layer_view 31 v₀).0 ∷ [])) e
  none-given (way.stored _ _ _ _ _ _ c e _ _ _) f =
      ap (λ (o : Option (LayeredValue 31)). given_in 0 (from_option [] (trees_at K 31 []) o ++ (layer_view 31 v₀).0 ∷ [])) e
  none-given (conflict _ _ _ _ _ _ c e _ _ _) f =
      ap (λ (o : Option (LayeredValue 31)). given_in 0 (from_option [] (trees_at K 31 []) o ++ (layer_view 31 v₀).0 ∷ [])) e
  none-given (below l _ _ _ lf p x o q E rest) f =
      let seen = to-trees m v₀ t₀.forest bytes in
      ap (λ (o : Option (LayeredValue 31)). given_in 0 (from_option [] (trees_at K 31 []) o ++ (layer_view 31 v₀).0 ∷ [])) q
      ∙ given-full (trees_up K l x (path_down K [])) (layer_view 31 v₀).0
      (full-below l (layer_view 31 v₀) [] (below-no-links K b) seen.holds seen.good
      (λ j. omega (arith, seen.nodes j, ones_below-le (nodes_in m) j)) lf p x q E rest f)

-- one step at a time
pub back_is : (steps : ℕ) (m : Memory) (v : Layers) → IsTree m v → Bytes m.bytes → (K : List ℕ) → Bytes K
    → links_to (place m K) ≤ steps → nodes_back steps m K ≡ given_in 0 (trees_up K 31 (layer_view 31 v) [])
unfolding nodes_back all_given_back
back_is zero m v t bytes K b h =
    sym (none-given m v t bytes K b (place-way m (sound-of m v t.forest) (layer_view 31 v) (to-trees m v t.forest bytes) K b)
    (none-by zero m v t bytes K b h))
back_is (suc steps) m v t bytes K b h =
    go (to_give_back m.nodes K (place m K)) refl (step_back m v t bytes K b)
    (λ w W. back_is steps (given_back m K (place m K)) w W bytes K b)
  where
    go : (c : Bool) → to_give_back m.nodes K (place m K) ≡ c
        → (T c → (1 ≤ links_to (place m K))
        × Stepped m v t bytes K b (missing_in (place m K)) (links_to (place m K) - 1) (given_back m K (place m K)))
        → ((w : Layers) → IsTree (given_back m K (place m K)) w → links_to (place (given_back m K (place m K)) K) ≤ steps
        → nodes_back steps (given_back m K (place m K)) K ≡ given_in 0 (trees_up K 31 (layer_view 31 w) []))
        → cond c (missing_in (place m K) ∷ nodes_back steps (given_back m K (place m K)) K) []
        ≡ given_in 0 (trees_up K 31 (layer_view 31 v) [])
    go false e f rest =
        sym (none-given m v t bytes K b (place-way m (sound-of m v t.forest) (layer_view 31 v) (to-trees m v t.forest bytes) K b) e)
    go true e f rest =
        let some-links = (f tt).0 in
        let (one, ends, fewer) = (f tt).1 in
        given-less (missing_in (place m K)) (nodes_back steps (given_back m K (place m K)) K) fewer
        (rest one.tree one.is-tree (omega (arith, ended (place (given_back m K (place m K)) K) (links_to (place m K) - 1) ends)))
