-- Along the way of a new key: the nodes with its entry are the trees' put. Assumes nothing.
use mathlib.Core.Path.{◌≡◌, refl, sym, ap, ◌∙◌, subst}
use mathlib.Core.Logic.{inl, inr}
use mathlib.Core.Bool.{true, false}
use mathlib.Core.List.{List}
use mathlib.Core.Option.{none, some}
use Prim.Native.Nat.{ℕ, zero, suc, ◌+◌, ◌*◌, ◌-◌, ◌≤◌, ◌<◌}
use native.Mathlib.Omega.{arith}
use lib.Dec.{T, eqb}
use lib.ListN.{length, get_or, set}
use borrow.Author.Tests.{eqb-true}
use Rattle.bank.specs.Bank.{slot_at}
use Rattle.order.specs.Layer.{ikey_at}
use Rattle.leaf_entries.specs.declared.Entry.{Entry}
use Rattle.leaf.specs.Leaf as leaves
use Rattle.arena.specs.Layout.{node_start, mark_at, key_at}
use Rattle.arena.specs.Memory.{Memory}
use Rattle.forest.specs.Nodes.{entries_at, slots_at, leaf_right}
use Rattle.forest.specs.Trees.{seen_as}
use Rattle.model.specs.Down.{leaf_for, leaf_in}
use Rattle.model.specs.Meet.{number_word}
use Rattle.model.specs.Grow.{entry_for, layer_grown, layers_grown}
use Rattle.model.specs.Calls.{is_stored, nodes_with}
use Rattle.model.specs.declared.Met.{Met}
use Rattle.model.specs.declared.Met.TheVariants.{Conflict}
use Rattle.trees.specs.Nodes.{IkeyClass, layer_order, NodeList, node_in}
use Rattle.trees.specs.FreeNumbers.{free_numbers, lowest_free}
use Rattle.trees.specs.Tree.{any_reaches}
use Rattle.trees.specs.TreePut.{tree_find}
use Rattle.trees.specs.Cut.{cut_place}
use Rattle.trees.specs.PutInMemory.{layer_put}
use Rattle.trees.specs.FindInMemory.{memory_needs}
use Rattle.trees.specs.Paths.{layer_key, path_down, key_below}
use Rattle.trees.specs.Entries.{cell_key}
use Rattle.trees.specs.Layers.{Pointer, cell, link, LayeredValue, Layered, layer_root, pointer_of, layer_reaches}
use Rattle.trees.specs.LayersPut.{height_in, conflict_count, conflict_written, layers_put, layers_need}
use Rattle.trees.proofs.FreeNumbers.{in-use-inside}
use Rattle.trees.proofs.Cut.{cut-exists}
use Rattle.trees.proofs.Paths.{raised_ikey-lt, layer_key-at, down-length}
use Rattle.trees.proofs.Relinked.{layer-found}
use Rattle.trees.proofs.PutThroughLayers.{layers_put-became}
use Rattle.order.specs.Map.{lookup}
use Rattle.order.specs.Options.{map_option}
use Rattle.order.proofs.Changes.{lookup-map}
use Rattle.views.specs.Views.{nodes_view, Sound}
use Rattle.views.proofs.Nodes.{nodes_in, nodes-long}
use Rattle.views.proofs.LayerViews.{right_edge}
use Rattle.growth.proofs.Memory.{leaf-of}
use Rattle.growth.proofs.LayerGrown.{LayerGrows}
use Rattle.growth.proofs.Replaced.{leaf_at, leaf-counted, leaf-for}
use Rattle.growth.proofs.Placed.{missing-grown}
use Rattle.growth.proofs.Steps.{conflict-layer, link-layer}
use Rattle.growth.proofs.Lent.{nodes-of, own-more}
use Rattle.places.proofs.Entries.{view, seen-cell, seen-link}
use Rattle.places.proofs.Down.{LeafIn}
use Rattle.places.proofs.Looks.{Looked, looks, seen-node}
use Rattle.places.proofs.Meets.{Entered, Way, missing, conflict, below}
use Rattle.places.proofs.Meets as way
use Rattle.views.proofs.Whole.{lengths}
use Rattle.puts.proofs.Layers.{Known, key-small, high_is, found, entry-counted, known-below, Conflicting, conflicting, none_last}

-- ---- an entry by what it is seen as

module _ (e : Entry) where
  -- a link's key
  link-key : eqb e.class 10 ≡ true → (suc e.ikey, 9) ≡ (view e).0
  unfolding seen_as
  link-key t = rw t

  -- the key of an entry with a cell
  cell-key : eqb e.class 10 ≡ false → (view e).0 ≡ (suc e.ikey, e.class)
  unfolding seen_as
  cell-key t = rw t

module _ (m : Memory) (sound : Sound m) (at : ℕ → List ℕ × ℕ) (c : ℕ) where
  abbrev M : NodeList Pointer
  M = nodes_view m

  abbrev K : List ℕ
  K = cell_key at c

  abbrev n : ℕ
  n = nodes_in m

  abbrev nodes : List ℕ
  nodes = m.nodes

  -- `result` are the words of memory with the key's entry in a layer or below it, beside the trees' new root and memory
  abbrev pub Put : (l : ℕ) → Layered l → ℕ → List ℕ → ℕ × NodeList Pointer → Type 0
  Put l v holder result b = LayerGrows (layer_reaches l v) nodes n holder (layer_root l v) result b

  -- ---- a layer without an entry of the key's ikey and class

  put-missing : (l : ℕ) (v : Layered l) (ks : List ℕ) (k : Known m sound at c l v ks) (holder : ℕ)
      → lookup layer_order (layer_key ks K) v.1 ≡ none
      → memory_needs Pointer 15 (height_in M (layer_root l v)) (layer_key ks K).0 (0, layer_root l v) M 1 ≤ length (free_numbers 0 M)
      → Put l v holder (layer_grown nodes n holder (layer_root l v) (entry_for K c (length ks)))
      (layer_put Pointer 15 9 cut_place (height_in M (layer_root l v)) (layer_key ks K) (λ o. some (cell c)) (layer_root l v) M)
  put-missing l v ks k holder q en =
      own-more (any_reaches Pointer v.0) (layer_reaches l v) nodes n holder (layer_root l v) _ _ (λ j z. omega arith)
      (missing-grown nodes n (nodes-of m sound).0 (nodes-of m sound).1 right_edge K ks c (key-small m sound at c ks k.fits.0) v.0
      k.held.0 (λ j. omega (arith, k.once j)) holder
      (ap (lookup layer_order (layer_key ks K)) k.held.1 ∙ lookup-map layer_order (layer_key ks K) (pointer_of l) v.1
      ∙ ap (map_option (pointer_of l)) q) en)

  -- ---- a layer with an entry there: what is known of its leaf

  module _ (l : ℕ) (v : Layered (suc l)) (ks : List ℕ) (k : Known m sound at c (suc l) v ks) (lf p : ℕ) (old : LayeredValue (suc l))
      (q : lookup layer_order (layer_key ks K) v.1 ≡ some old)
      (E : Entered m K (layer_root (suc l) v) (length ks) lf p (pointer_of (suc l) old)) where
    abbrev i : ℕ
    i = ikey_at K (8 * length ks)

    abbrev x : IkeyClass
    x = layer_key ks K

    x-is : x ≡ key_below K (length ks)
    x-is = layer_key-at ks K (length ks) refl

    its-once : (j : ℕ) → any_reaches Pointer v.0 j ≤ 1
    its-once j = omega (arith, k.once j)

    x-small : x.0 < right_edge
    x-small = key-small m sound at c ks k.fits.0

    L : Looked m (lengths m sound.lent).nodes-whole (lengths m sound.lent).n-high (suc l) v i
    L = looks m (lengths m sound.lent).nodes-whole (lengths m sound.lent).n-high (suc l) v i k.held its-once

    -- the leaf that the words lead to is the trees'
    leaf-there : lf ≡ (leaf_at v.0.0 x.0 (0, v.0.1)).0
    unfolding leaf_in
    leaf-there =
        E.leaf-is ∙ ap (λ (d : ℕ). leaf_for nodes d (layer_root (suc l) v) i) L.tall
        ∙ leaf-for nodes n (nodes-of m sound).0 i v.0.0 0 right_edge (0, v.0.1)
        (refl, omega arith, subst (λ (y : IkeyClass). y.0 < right_edge) x-is x-small, k.held.0.0) k.held.0.1
        ∙ ap (λ (y : IkeyClass). (leaf_at v.0.0 y.0 (0, v.0.1)).0) (sym x-is)

    finds : tree_find Pointer v.0.0 x (0, v.0.1) ≡ some (pointer_of (suc l) old)
    finds = (layer-found 15 9 cut_place right_edge (suc l) M v x x-small k.held its-once).1 ∙ ap (map_option (pointer_of (suc l))) q

    right : LeafIn M 15 lf
    right = subst (LeafIn M 15) (sym E.leaf-is) L.right

    within : lf < n
    within = subst (λ (y : ℕ). lf < y) (nodes-long m) (in-use-inside M lf (rw right.is_leaf tt))

    leaf-right : T (leaf_right nodes lf)
    leaf-right = leaf-of nodes n (nodes-of m sound).0 lf within {es = right.has}
        (sym (seen-node m (lengths m sound.lent).nodes-whole lf) ∙ right.is_leaf)

    in_tree : 1 ≤ any_reaches Pointer v.0 lf
    in_tree = subst (λ (y : ℕ). 1 ≤ any_reaches Pointer v.0 y) (sym leaf-there)
        (leaf-counted x.0 v.0.0 0 right_edge (0, v.0.1) (refl, omega arith, x-small, k.held.0.0))

    entry_key : (view (get_or (entries_at nodes lf) p leaves.none)).0 ≡ x
    entry_key = E.keyed ∙ sym x-is

  -- ---- below a link: its number is the new root's

  module _ (l : ℕ) (v : Layered (suc l)) (ks : List ℕ) (k : Known m sound at c (suc l) v ks) (holder lf p : ℕ) (w : Layered l)
      (q : lookup layer_order (layer_key ks K) v.1 ≡ some (inr w))
      (E : Entered m K (layer_root (suc l) v) (length ks) lf p (link (layer_root l w))) where
    abbrev link_at : Entry
    link_at = get_or (entries_at nodes lf) p leaves.none

    below_put : (result : List ℕ) (b : ℕ × NodeList Pointer) → ((j : ℕ) → 0 < any_reaches Pointer v.0 j → node_in b.1 j ≡ node_in M j)
        → Put l w (number_word nodes lf p) result b
        → Put (suc l) v holder result (layer_put Pointer 15 9 cut_place (height_in M (layer_root (suc l) v)) (layer_key ks K)
        (λ o. some (link b.0)) (layer_root (suc l) v) b.1)
    below_put result b same G =
        let (ten, number) = seen-link link_at (layer_root l w) E.there in
        let counted = entry-counted m sound at c (suc l) v ks k (inr w) q in
        subst (λ (d : ℕ). Put (suc l) v holder result (layer_put Pointer 15 9 cut_place d (layer_key ks K) (λ o. some (link b.0))
        (layer_root (suc l) v) b.1)) (sym (high_is m sound at c (suc l) v ks k))
        (own-more (λ j. any_reaches Pointer v.0 j + layer_reaches l w j) (layer_reaches (suc l) v) nodes n holder
        (layer_root (suc l) v) result _ (λ j z. omega (arith, counted j))
        (link-layer nodes n (nodes-of m sound).0 lf (within l v ks k lf p (inr w) q E) (leaf-right l v ks k lf p (inr w) q E) p
        E.inside right_edge v.0 k.held.0 (λ j. omega (arith, k.once j))
        (layer_key ks K) (key-small m sound at c ks k.fits.0) (leaf-there l v ks k lf p (inr w) q E) (link (layer_root l w))
        (finds l v ks k lf p (inr w) q E)
        (link-key link_at ten ∙ entry_key l v ks k lf p (inr w) q E) holder (layer_reaches l w) (eqb-true link_at.class 10 ten)
        (let z : layer_reaches l w lf ≡ 0 = omega (arith, in_tree l v ks k lf p (inr w) q E, counted lf, k.once lf) in z) result b
        (subst (λ (r : ℕ). LayerGrows (layer_reaches l w) nodes n (number_word nodes lf p) r result b) (sym number) G) same))

  -- ---- a conflict: the entry becomes a link to the layers of the two keys

  module _ (agree : (j : ℕ) → 1 ≤ mark_at m.cells j → cell_key at j ≡ key_at m.cells m.bytes j) where
    module _ (l : ℕ) (v : Layered (suc l)) (ks : List ℕ) (k : Known m sound at c (suc l) v ks) (holder lf p b : ℕ)
        (q : lookup layer_order (layer_key ks K) v.1 ≡ some (inl b))
        (E : Entered m K (layer_root (suc l) v) (length ks) lf p (cell b)) (marked : 1 ≤ mark_at m.cells b) where
      abbrev cell_entry : Entry
      cell_entry = get_or (entries_at nodes lf) p leaves.none

      C : Conflicting m sound at c l ks b
      C = conflicting m sound at c l v ks k b q

      key-there : (suc cell_entry.ikey, cell_entry.class) ≡ layer_key ks K
      key-there = sym (cell-key cell_entry (seen-cell cell_entry b E.there).0) ∙ entry_key l v ks k lf p (inl b) q E

      class-9 : cell_entry.class ≡ 9
      class-9 = ap (λ (y : IkeyClass). y.1) (key-there ∙ C.nine)

      conflict-put : conflict_count K (cell_key at b) l (path_down K ks) ≤ length (free_numbers 0 M)
          → Put (suc l) v holder (nodes_with m K c (Conflict lf p b (length ks)))
          (layer_put Pointer 15 9 cut_place (height_in M (layer_root (suc l) v)) (layer_key ks K) (λ o. some (link (lowest_free M)))
          (layer_root (suc l) v) (conflict_written at K c b l (path_down K ks) M))
      conflict-put en =
          let z : l ≡ 31 - suc (length ks) = omega (arith, k.deep) in
          let a = agree b marked in
          let d = down-length K ks (length ks) refl in
          let after = conflict_written at K c b l (path_down K ks) M in
          let G = conflict-layer nodes n (nodes-of m sound).0 lf (within l v ks k lf p (inl b) q E)
          (leaf-right l v ks k lf p (inl b) q E) p E.inside right_edge v.0 k.held.0 (λ j. omega (arith, k.once j))
          (layer_key ks K) (key-small m sound at c ks k.fits.0) (leaf-there l v ks k lf p (inl b) q E) (cell b)
          (finds l v ks k lf p (inl b) q E)
          (ap (λ (y : ℕ). (suc cell_entry.ikey, y)) (sym class-9) ∙ key-there) holder at c b C.apart
          (λ J y. raised_ikey-lt y) class-9 l (path_down K ks) C.fits_on C.other-on en in
          subst (λ (d : ℕ). Put (suc l) v holder (nodes_with m K c (Conflict lf p b (length ks)))
          (layer_put Pointer 15 9 cut_place d (layer_key ks K) (λ o. some (link (lowest_free M))) (layer_root (suc l) v) after))
          (sym (high_is m sound at c (suc l) v ks k))
          (subst (λ (ws : List ℕ). Put (suc l) v holder ws
          (layer_put Pointer 15 9 cut_place v.0.0 (layer_key ks K) (λ o. some (link (lowest_free M))) (layer_root (suc l) v) after))
          (λ y. layers_grown (z y) (set nodes (node_start lf + 17 + slot_at p (slots_at nodes lf)) 10) n (number_word nodes lf p)
          (record { key = K; cell = c }) (record { key = a y; cell = b }) (d y))
          (own-more (any_reaches Pointer v.0) (layer_reaches (suc l) v) nodes n holder (layer_root (suc l) v) _ _ (λ j y. omega arith) G))

    -- ---- the whole way

    pub way-put : {l : ℕ} {v : Layered l} {ks : List ℕ} {holder : ℕ} {o : Met} → Way m K l v ks holder o → is_stored o ≡ false
        → Known m sound at c l v ks
        → layers_need 15 at K l ks (layer_root l v) M ≤ length (free_numbers 0 M)
        → Put l v holder (nodes_with m K c o) (layers_put 15 9 cut_place at K c l ks (layer_root l v) M)
    way-put (missing zero v ks holder q) s k = λ en. put-missing zero v ks k holder q en
    way-put (missing (suc l) v ks holder q) s k = rw (found m sound at c (suc l) v ks k none q)
        (λ en. put-missing (suc l) v ks k holder q en)
    way-put (way.stored l v ks holder lf p b q E w e) s k = let z : ◌≡◌ {A = ℕ} 0 1 = cc in absurd (omega arith)
    way-put (conflict zero v ks holder lf p b q E w e) s k = absurd (none_last m sound at c v ks k b q)
    way-put (conflict (suc l) v ks holder lf p b q E w e) s k =
        rw (found m sound at c (suc l) v ks k (some (inl b)) q) (λ en. conflict-put l v ks k holder lf p b q E w.marked en)
    way-put (below l v ks holder lf p w o q E rest) s k =
        rw (found m sound at c (suc l) v ks k (some (inr w)) q) (λ en.
        let u = known-below m sound at c l v ks k w q in
        let (x, D, e, size) = layers_put-became 15 9 cut_place right_edge at c (cut-exists 9) (omega arith) (omega arith) (omega arith)
        (λ J y. raised_ikey-lt y) l (path_down K ks) M w u.fits u.held u.good u.new u.once en in
        below_put l v ks k holder lf p w q E (nodes_with m K c o) (layers_put 15 9 cut_place at K c l (path_down K ks) (layer_root l w) M)
        (λ j y. D.same j (omega (arith, k.once j, entry-counted m sound at c (suc l) v ks k (inr w) q j)) (omega (arith, k.once j)))
        (way-put rest s u en))
