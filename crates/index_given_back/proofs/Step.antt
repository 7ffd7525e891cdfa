-- One step of giving back: memory stays a tree and lists the same, one node more is free, and the key's way ends one layer higher. Assumes
-- nothing.
use mathlib.Core.Path.{◌≡◌, refl, sym, ap, ◌∙◌, subst}
use mathlib.Core.Logic.{◌≢◌}
use mathlib.Core.List.{List, [], ◌∷◌}
use Prim.Native.Nat.{ℕ, ◌+◌, ◌-◌, ◌*◌, ◌≤◌, ◌<◌}
use native.Mathlib.Omega.{arith}
use lib.Dec.{T}
use lib.ListN.{length, get_or, set, length-set, length-map}
use lib.Seq.{get_or-set_other}
use Rattle.bank.specs.Bank.{slot_at}
use Rattle.order.specs.Bytes.{Bytes}
use Rattle.arena.specs.Layout as layout
use Rattle.arena.specs.Layout.{word_at, freed_node}
use Rattle.arena.specs.Memory.{Memory, memory, node_count}
use Rattle.arena.specs.Free.{free_nodes}
use Rattle.forest.specs.Nodes.{entries_at, slots_at, leaf_right}
use Rattle.forest.specs.Trees.{seen_as}
use Rattle.forest.specs.IsTree.{Layers, IsTree, listing}
use Rattle.model.specs.Meet.{number_word}
use Rattle.model.specs.Leaves.{entry_taken}
use Rattle.model.specs.GivenBack.{node_of_word, link_place, without_layer, empty_layer, to_give_back, given_back}
use Rattle.model.specs.Calls.{place}
use Rattle.model.specs.declared.Met.{Met}
use Rattle.model.specs.declared.Met.TheVariants.{Stored, Conflict, Missing}
use Rattle.trees.specs.Nodes.{free, leaf, NodeList, node_in, one_at, InUse}
use Rattle.trees.specs.FreeNumbers.{free_numbers, times_in}
use Rattle.trees.specs.Cut.{cut_place}
use Rattle.trees.specs.Cells.{cell_at}
use Rattle.trees.specs.Layers.{Pointer, Layered}
use Rattle.trees.specs.WholeTree.{bare_entries, layer_listing, IsWholeTree}
use Rattle.trees.proofs.FreeNumbers.{in-use-inside, free-kept}
use Rattle.trees.proofs.WholeTree.{ones_below-le, below-no-links}
use Rattle.views.specs.Views.{tabled, entry_view, node_view, nodes_view, cells_view, layer_view, Sound}
use Rattle.views.proofs.Nodes.{nodes_in, cells_in, nodes-long, frees-view}
use Rattle.views.proofs.LayerViews.{right_edge}
use Rattle.views.proofs.Whole.{ViewIsTree, sound-of, to-trees, listing-view, from-trees, lengths}
use Rattle.growth.proofs.Frames.{slot-below}
use Rattle.growth.proofs.LeafGrown.{leaf-valid, leaf-length}
use Rattle.growth.proofs.Memory.{Nodes, Wrote, leaf-of}
use Rattle.growth.proofs.Entries.{sorted_rises}
use Rattle.places.proofs.Entries.{view_all}
use Rattle.places.proofs.Down.{leaf-words}
use Rattle.places.proofs.Looks.{seen-node}
use Rattle.places.proofs.Meets.{Way, missing, conflict, below}
use Rattle.places.proofs.Meets as way
use Rattle.places.proofs.Seen.{place-way}
use Rattle.places.proofs.Taken.{without_at, entry-taken}
use Rattle.places.proofs.LeafLess.{MayGo, left_at}
use Rattle.index_given_back.proofs.Entries.{Alike}
use Rattle.index_given_back.proofs.Hollow.{Gave, free-given}
use Rattle.index_given_back.proofs.Freed.{node-given}
use Rattle.index_given_back.proofs.Upward.{trees_up, Shorter}
use Rattle.index_given_back.proofs.Ways.{EndsBelow, Goes, EndsAt, way-given}
use Rattle.index_given_back.specs.GaveBack.{missing_in, GaveBack}

-- ---- lent memory without a link and the empty leaf below it

module _ (m : Memory) (sound : Sound m) (lf p n : ℕ) (L : MayGo m lf p) (empty : node_in (nodes_view m) n ≡ leaf []) where
  abbrev taken : List ℕ
  taken = entry_taken m.nodes lf p

  abbrev after : Memory
  after = memory (freed_node (entry_taken m.nodes lf p) n) m.cells m.bytes

  whole : length m.nodes ≡ 2 + nodes_in m * 47
  whole = (lengths m sound.lent).nodes-whole

  its-nodes : Nodes m.nodes (nodes_in m)
  its-nodes = record { long = whole; sound = sound.nodes-sound }

  leaf-in : lf < nodes_in m
  leaf-in = rw (← nodes-long m) (in-use-inside (nodes_view m) lf (rw L.is_leaf tt))

  node-in : n < nodes_in m
  node-in = rw (← nodes-long m) (in-use-inside (nodes_view m) n (rw empty tt))

  right-leaf : T (leaf_right m.nodes lf)
  right-leaf = leaf-of m.nodes (nodes_in m) its-nodes lf leaf-in {es = L.had} (sym (seen-node m whole lf) ∙ L.is_leaf)

  -- the leaf above has an entry, so it is another
  apart : n ≢ lf
  apart e =
      let none : view_all (entries_at m.nodes lf) ≡ [] = subst (λ (i : ℕ). view_all (entries_at m.nodes i) ≡ []) e
      (leaf-words m.nodes (nodes_view m) (seen-node m whole) n [] empty).1 in
      omega (arith, L.inside, ap length none, length-map (entries_at m.nodes lf) (λ e. entry_view (seen_as e)))

  link-taken : Wrote m.nodes (entry_taken m.nodes lf p) (nodes_in m) lf (leaf (view_all (without_at p (entries_at m.nodes lf))))
  link-taken =
      entry-taken m.nodes (nodes_in m) its-nodes lf leaf-in right-leaf p L.inside
      (λ t. sorted_rises (without_at p (entries_at m.nodes lf)) t L.left-sorted)

  node-freed : Wrote taken (freed_node taken n) (nodes_in m) n free
  node-freed = node-given taken (nodes_in m) link-taken.still n node-in

  as_long : length (freed_node taken n) ≡ length m.nodes
  as_long = node-freed.still.long ∙ sym whole

  as_many : nodes_in after ≡ nodes_in m
  as_many = ap node_count as_long

  after-nodes : nodes_view after ≡ set (left_at m lf p) n free
  after-nodes = ap (λ (i : ℕ). tabled (node_view (freed_node taken n)) 0 i) as_many ∙ node-freed.view
      ∙ ap (λ (s : NodeList Pointer). set s n free) link-taken.view

  head-same : (i : ℕ) → i < 2 → get_or (freed_node taken n) i 0 ≡ get_or m.nodes i 0
  head-same i h = node-freed.head i h ∙ link-taken.head i h

  pub after-sound : Sound after
  after-sound = record {
    lent = rw as_long sound.lent;
    nodes-sound = λ k h. node-freed.still.sound k (rw (← as_many) h);
    cells-sound = sound.cells-sound;
  }

  -- its free numbers
  pub frees : (j : ℕ) → times_in (free_numbers 0 (set (left_at m lf p) n free)) j ≡ times_in (free_numbers 0 (nodes_view m)) j + one_at n j
  frees j =
      let x = leaf (view_all (without_at p (entries_at m.nodes lf))) in
      let used : InUse (node_in (left_at m lf p) n) =
      rw (get_or-set_other (nodes_view m) lf n x free apart ∙ empty) tt in
      let z : 0 + n ≡ n = omega arith in
      omega (
        arith,
        free-given (left_at m lf p) 0 n j used,
        ap (λ (fs : List ℕ). times_in fs j) (free-kept (nodes_view m) 0 lf x (rw L.is_leaf tt) tt),
        ap (λ (i : ℕ). one_at i j) z,
      )

  -- the tree of the view, where its layers are others
  pub after-tree : (v w : Layered 31) → ViewIsTree m v
      → Gave 15 9 cut_place right_edge (nodes_view m) (set (left_at m lf p) n free) n 31 v w
      → Alike (cell_at (cells_view m)) 31 [] (bare_entries 31 v) (bare_entries 31 w)
      → ViewIsTree after w
  after-tree v w t g a =
      subst (λ (c : ℕ). IsWholeTree 15 right_edge 31 c (cells_in m) (nodes_view after) (cells_view m) (layout.root_of after.nodes) w)
      (sym as_many)
      (subst (λ (s : NodeList Pointer). IsWholeTree 15 right_edge 31 (nodes_in m) (cells_in m) s (cells_view m)
      (layout.root_of after.nodes) w) (sym after-nodes) (record {
        rooted = g.rooted ∙ t.rooted ∙ sym (head-same 0 (omega arith));
        holds = g.holds;
        good = a.right;
        size = (
          length-set (left_at m lf p) n free
              ∙ length-set (nodes_view m) lf (leaf (view_all (without_at p (entries_at m.nodes lf)))) ∙ t.size.0,
          t.size.1,
        );
        nodes = λ j. omega (arith, g.less j, frees j, t.nodes j);
        cells = λ j. omega (arith, a.used j, t.cells j);
      }))

-- ---- one step

-- the links above the layer where a key is missing
abbrev pub links_to : Met → ℕ
links_to (Stored lf position cell) = 0
links_to (Conflict lf position cell links) = 0
links_to (Missing holder root links) = links

module _ (m : Memory) (v : Layers) (t : IsTree m v) (bytes : Bytes m.bytes) (K : List ℕ) (b : Bytes K) where
  s : Sound m
  s = sound-of m v t.forest

  view : ViewIsTree m (layer_view 31 v)
  view = to-trees m v t.forest bytes

  -- leaf n goes by the link at position p of leaf lf, so many links down
  abbrev LeafGoes : ℕ → ℕ → ℕ → ℕ → Type 0
  LeafGoes lf p n links =
      Goes m K (lengths m s.lent).nodes-whole (lengths m s.lent).n-high (cell_at (cells_view m)) 31 (layer_view 31 v) [] lf p n links

  -- a tree that lists the same, with node n free too, where the key is missing below so many links; the last of its layers
  -- is gone
  abbrev pub Stepped : ℕ → ℕ → Memory → Type 0
  Stepped n links x =
      (g : GaveBack m v (n ∷ []) x) × EndsBelow links (place x K)
      × Shorter n (trees_up K 31 (layer_view 31 v) []) (trees_up K 31 (layer_view 31 g.tree) [])

  by_place : (lf p n links : ℕ) → LeafGoes lf p n links
      → Stepped n links (memory (freed_node (entry_taken m.nodes lf p) n) m.cells m.bytes)
  by_place lf p n links g =
      let L = g.may-go in
      let E = g.is-empty in
      let x = after m s lf p n L E in
      let S = after-sound m s lf p n L E in
      let seen = after-tree m s lf p n L E (layer_view 31 v) g.after view g.gave g.alike in
      let (u, U, e) = from-trees x S g.after seen in
      let listed : listing x u ≡ listing m v =
      listing-view x u U ∙ ap (layer_listing 31 (cells_view m)) e ∙ g.alike.listed ∙ sym (listing-view m v t.forest) in
      let free-after : free_nodes x.nodes (nodes_in m) ≡ free_numbers 0 (set (left_at m lf p) n free) =
      ap (free_nodes x.nodes) (sym (as_many m s lf p n L E)) ∙ sym (frees-view x S) ∙ ap (free_numbers 0) (after-nodes m s lf p n L E) in (
        record {
          tree = u;
          is-tree = record { forest = U; counted = head-same m s lf p n L E 1 (omega arith) ∙ t.counted ∙ sym (ap length listed) };
          same-listing = listed;
          as_many = as_many m s lf p n L E;
          freed = λ j. omega (
            arith,
            frees m s lf p n L E j,
            ap (λ (fs : List ℕ). times_in fs j) free-after,
            ap (λ (fs : List ℕ). times_in fs j) (frees-view m s),
          );
          same-cells = refl;
          same_bytes = refl;
        },
        g.ends x 0 (place x K) (place-way x S g.after seen K b),
        subst (λ (w : Layered 31). Shorter n (trees_up K 31 (layer_view 31 v) []) (trees_up K 31 w [])) (sym e) g.fewer,
      )

  -- the leaf of a number word
  pub word-node : (lf p : ℕ) → MayGo m lf p → node_of_word (number_word m.nodes lf p) ≡ lf
  word-node lf p L =
      let N : Nodes m.nodes (nodes_in m) = record { long = (lengths m s.lent).nodes-whole; sound = s.nodes-sound } in
      let r : T (leaf_right m.nodes lf) =
      leaf-of m.nodes (nodes_in m) N lf (rw (← nodes-long m) (in-use-inside (nodes_view m) lf (rw L.is_leaf tt))) {es = L.had}
      (sym (seen-node m (lengths m s.lent).nodes-whole lf) ∙ L.is_leaf) in
      let low : slot_at p (slots_at m.nodes lf) < 15 =
      slot-below (word_at m.nodes lf 1) (leaf-valid m.nodes lf r) p (omega (arith, L.inside, leaf-length m.nodes lf r)) in
      omega arith

  at_place : (holder root links lf p : ℕ) → holder ≡ number_word m.nodes lf p → p ≡ link_place m.nodes K lf links
      → LeafGoes lf p root (links - 1) → Stepped root (links - 1) (given_back m K (Missing holder root links))
  unfolding without_layer
  at_place holder root links lf p a c g =
      let e : node_of_word holder ≡ lf = ap node_of_word a ∙ word-node lf p g.may-go in
      rw (e, ← c) (by_place lf p root (links - 1) g)

  from-root : {o : Met} → Way m K 31 (layer_view 31 v) [] 0 o → T (to_give_back m.nodes K o)
      → (1 ≤ links_to o) × Stepped (missing_in o) (links_to o - 1) (given_back m K o)
  unfolding empty_layer
  from-root (missing _ _ _ _ q) t = absurd t
  from-root (way.stored _ _ _ _ _ _ _ _ _ _ _) t = absurd t
  from-root (conflict _ _ _ _ _ _ _ _ _ _ _) t = absurd t
  from-root (below l _ _ _ lf p x o q E rest) t =
      on o (way-given m K (lengths m s.lent).nodes-whole (lengths m s.lent).n-high (cell_at (cells_view m)) l (layer_view 31 v) []
      (below-no-links K b) view.holds view.good (λ j. omega (arith, view.nodes j, ones_below-le (nodes_in m) j)) lf p x q E rest t)
    where
      on : (o : Met) → EndsAt o
          (λ holder root links. (lf p : ℕ) × (holder ≡ number_word m.nodes lf p) × (1 ≤ links)
          × (p ≡ link_place m.nodes K lf links) × LeafGoes lf p root (links - 1))
          → (1 ≤ links_to o) × Stepped (missing_in o) (links_to o - 1) (given_back m K o)
      on (Stored _ _ _) e = absurd e
      on (Conflict _ _ _ _) e = absurd e
      on (Missing holder root links) (lf, p, a, n, c, g) = (n, at_place holder root links lf p a c g)

  -- THE LAW OF A STEP: where the layer in which the key is missing is empty, memory without it is a tree, lists the same, and has its root
  -- free and no other node; and the key is missing one layer higher
  pub step_back : T (to_give_back m.nodes K (place m K))
      → (1 ≤ links_to (place m K)) × Stepped (missing_in (place m K)) (links_to (place m K) - 1) (given_back m K (place m K))
  step_back t = from-root (place-way m s (layer_view 31 v) view K b) t
