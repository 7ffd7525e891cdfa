-- The nodes that a put needs: the count on the one way down is document 01's, on the tree that memory is. Assumes nothing.
use mathlib.Core.Path.{◌≡◌, refl, sym, ap, ap₂, ◌∙◌, subst}
use mathlib.Core.Bool.{Bool, true, false, cond}
use mathlib.Core.Logic.{◌≢◌, inl, inr}
use mathlib.Core.List.{List, [], ◌∷◌, ◌++◌, map}
use mathlib.Core.Option.{Option, none, some}
use Prim.Native.Nat.compare
use Prim.Native.Nat.{ℕ, zero, suc, ◌+◌, ◌-◌, ◌*◌, ◌≤◌, ◌<◌, Ordering, compare}
use native.Mathlib.Decide.{ℕ_discrete}
use native.Mathlib.Omega.{arith}
use lib.Dec.{eqb, leb, ltb, eqb-suc-suc, eqb-zero-suc}
use lib.ListN.{length, length-map}
use borrow.Author.Tests.{le-leb, le-ltb, eq-eqb, ne_eqb}
use Rattle.bank.specs.Lists.{up}
use Rattle.order.specs.Bytes.{Bytes, then}
use Rattle.order.specs.Layer.{ikey_at}
use Rattle.order.specs.Map.{All, a[], ◌a∷◌, lookup, pick}
use Rattle.order.specs.Options.{map_option}
use Rattle.arena.specs.Layout.{mark_at, key_at}
use Rattle.arena.specs.Memory.{Memory}
use Rattle.forest.specs.Trees.{Key, Tree}
use Rattle.forest.specs.Layers.{Value, Layer}
use Rattle.forest.specs.IsTree.{Layers, Forest}
use Rattle.model.specs.Calls.{stored, needed}
use Rattle.model.specs.Needed.{both_go_on, layers_of}
use Rattle.trees.specs.Nodes.{IkeyClass, layer_order, NodeList}
use Rattle.trees.specs.Tree.{TreeOver, tree_root, HoldsTree, WellFormed, Abutting, last_child, and_next, LowsAgree, numbered}
use Rattle.trees.specs.TreePut.{of_child}
use Rattle.trees.specs.FindInMemory.{memory_needs}
use Rattle.trees.specs.Paths.{layer_key, path_down}
use Rattle.trees.specs.Cut.{cut_place}
use Rattle.trees.specs.Entries.{cell_key, from_option}
use Rattle.trees.specs.Cells.{cell_at}
use Rattle.trees.specs.WholeTree.{ones_below, layer_uses}
use Rattle.trees.specs.Layers.{Pointer, pointer_of, layer_root}
use Rattle.trees.specs.LayersPut.{height_in, by_pointer, conflict_count, layers_need}
use Rattle.trees.proofs.Paths.{layer_key-at, down-length}
use Rattle.trees.proofs.OneLayer.{lows-agree}
use Rattle.trees.proofs.PutInMemory.{children-of-internode}
use Rattle.growth.proofs.LayerKeys.{layers-chain}
use Rattle.views.specs.Views.{key_view, entry_view, tree_view, value_view, layer_view, nodes_view, cells_view, Sound}
use Rattle.views.proofs.Nodes.{cells_in}
use Rattle.views.proofs.Whole.{sound-of, to-trees}
use Rattle.places.proofs.Seen.{seen_key, marked-inside}
use Rattle.views.proofs.TreeViews.{child_view}
use Rattle.views.proofs.LayerViews.{right_edge}
use Rattle.puts.specs.Needed.{leading, full_upward, splits, needed_in_layer, new_layers, key_down, needed_at_entry, needed_from}
use Rattle.puts.specs.Needed.{needed_nodes}
use Rattle.puts.proofs.Along as A
use Rattle.puts.proofs.Layers.{Known, known-below, conflicting, none_last, high_is, found}

-- ---- counted from the leaf upward, and with what is needed above

-- what these nodes need, where `more` are needed above them if all are split
abbrev counted : List Bool → ℕ → ℕ
counted full more = splits full + cond (eqb (splits full) (length full)) more 0

-- one node more on top: where it is full, it is split too
counted-more : (full : List Bool) (b : Bool) (more : ℕ) → counted (full ++ b ∷ []) more ≡ counted full (cond b (suc more) 0)
unfolding leading
counted-more [] true more = let z : 1 + more ≡ 0 + suc more = omega arith in z
counted-more [] false more = refl
counted-more (false ∷ full) b more =
    rw (eqb-zero-suc (length (full ++ b ∷ [])), eqb-zero-suc (length full)) refl
counted-more (true ∷ full) b more =
    rw (eqb-suc-suc (splits (full ++ b ∷ [])) (length (full ++ b ∷ [])), eqb-suc-suc (splits full) (length full))
    (omega (arith, counted-more full b more))

-- a leaf, by its number of entries
leaf-count : (n more : ℕ) → n ≤ 15 → cond (leb (suc n) 15) 0 (suc more) ≡ counted (eqb n 15 ∷ []) more
unfolding leading
leaf-count n more h = go (ℕ_discrete n 15)
  where
    go : Dec (n ≡ 15) → cond (leb (suc n) 15) 0 (suc more) ≡ counted (eqb n 15 ∷ []) more
    go (yes e) = let z : suc more ≡ 1 + more = omega arith in rw e z
    go (no ne) = let l : suc n ≤ 15 = omega arith in rw (ne_eqb n 15 ne, le-leb (suc n) 15 l) refl

-- an internode, by its number of children
internode-count : (n more : ℕ) → n ≤ 16 → cond (leb n 15) 0 (suc more) ≡ cond (eqb n 16) (suc more) 0
internode-count n more h = go (ℕ_discrete n 16)
  where
    go : Dec (n ≡ 16) → cond (leb n 15) 0 (suc more) ≡ cond (eqb n 16) (suc more) 0
    go (yes e) = rw e refl
    go (no ne) = let l : n ≤ 15 = omega arith in rw (ne_eqb n 16 ne, le-leb n 15 l) refl

-- ---- the tree of one layer

-- what holds between the bounds of each child
each-child : {C : Type 0} {R : ℕ → ℕ → C → Type 0} {hi lo : ℕ} {ps : List (ℕ × C)} → Abutting R hi lo ps
    → All (λ p. (a : ℕ) × ((b : ℕ) × R a b p.1)) ps
each-child {hi = hi} {lo = lo} (last_child e l r) = (lo, (hi, r)) a∷ a[]
each-child {lo = lo} (and_next s e l r rest) = (lo, (s, r)) a∷ each-child rest

module _ (M : NodeList Pointer) (ikey : ℕ) where
  -- what a child needs, by its number; and by the nodes on the way through it
  abbrev by_number : (h more : ℕ) → ℕ × ℕ → ℕ
  by_number h more q = memory_needs Pointer 15 h (suc ikey) q M more

  abbrev ByWay : (h more : ℕ) → ℕ × Tree h → Type 0
  ByWay h more p = by_number h more (numbered (tree_root Pointer h) (child_view h p)) ≡ counted (full_upward h ikey p.1) more

  through-child : (h more : ℕ) (ps : List (ℕ × Tree h)) → 0 < length ps → All (ByWay h more) ps
      → of_child 0 (by_number h more) (suc ikey) (map (numbered (tree_root Pointer h)) (map (child_view h) ps))
      ≡ counted (of_child [] (λ p. full_upward h ikey p.1) (suc ikey) ps) more
  through-child h more [] l a = absurd (omega arith)
  through-child h more (p ∷ []) l (q a∷ a[]) = q
  through-child h more (p ∷ p' ∷ ps) l (q a∷ qs) =
      go (ltb (suc ikey) p'.0) (full_upward h ikey p.1) (of_child [] (λ r. full_upward h ikey r.1) (suc ikey) (p' ∷ ps)) q
      (through-child h more (p' ∷ ps) (omega arith) qs)
    where
      go : (b : Bool) {here below : ℕ} (way rest : List Bool) → here ≡ counted way more → below ≡ counted rest more
          → cond b here below ≡ counted (cond b way rest) more
      go true way rest e f = e
      go false way rest e f = f

  upward : (h lo a b : ℕ) (t : Tree h) → HoldsTree Pointer M h (tree_view h t) → LowsAgree Pointer h (lo, tree_view h t)
      → WellFormed Pointer 15 h a b (tree_view h t) → (more : ℕ)
      → by_number h more (lo, tree_root Pointer h (tree_view h t)) ≡ counted (full_upward h ikey t) more
  unfolding full_upward
  upward zero lo a b t holds low good more =
      rw (holds, length-map t.1 entry_view) (leaf-count (length t.1) more (omega (arith, good.2, length-map t.1 entry_view)))
  upward (suc h) lo a b t holds low good more =
      let n = length t.1 in
      let e = length-map t.1 (child_view h) in
      let way = of_child [] (λ p. full_upward h ikey p.1) (suc ikey) t.1 in
      rw (
        holds.0,
        children-of-internode Pointer 15 0 (λ e. 0) lo h (map (child_view h) t.1) low.0 low.1,
        length-map (map (child_view h) t.1) (numbered (tree_root Pointer h)),
        e,
      )
      (through-child h (cond (leb n 15) 0 (suc more)) t.1 (omega (arith, low.0))
      (go (λ p c d. upward h p.0 c d p.1) t.1 holds.1 low.2
      (each-child good.0))
      ∙ ap (counted way) (internode-count n more (omega (arith, good.1)))
      ∙ sym (counted-more way (eqb n 16) more))
    where
      go : ((p : ℕ × Tree h) (c d : ℕ) → HoldsTree Pointer M h (tree_view h p.1) → LowsAgree Pointer h (child_view h p)
          → WellFormed Pointer 15 h c d (tree_view h p.1) → (more : ℕ) → ByWay h more p)
          → (ps : List (ℕ × Tree h)) → All (λ p. HoldsTree Pointer M h p.1) (map (child_view h) ps)
          → All (LowsAgree Pointer h) (map (child_view h) ps)
          → All (λ p. (c : ℕ) × ((d : ℕ) × WellFormed Pointer 15 h c d p.1)) (map (child_view h) ps)
          → All (ByWay h (cond (leb (length t.1) 15) 0 (suc more))) ps
      go f [] a[] a[] a[] = a[]
      go f (p ∷ ps) (x a∷ xs) (y a∷ ys) (z a∷ zs) =
          f p z.0 z.1.0 x y z.1.1 (cond (leb (length t.1) 15) 0 (suc more)) a∷ go f ps xs ys zs

-- ---- the layers of a conflict

layers-lead : (K J : List ℕ) (l links : ℕ) → layers_of l K J links ≡ suc (leading (both_go_on K J) (up links l))
unfolding layers_of leading up
layers-lead K J zero links = refl
layers-lead K J (suc l) links = go (both_go_on K J links) (layers-lead K J l (suc links))
  where
    go : (b : Bool) {x y : ℕ} → x ≡ suc y → cond b (suc x) 1 ≡ suc (cond b (suc y) 0)
    go true e = ap suc e
    go false e = refl

-- ---- an entry of a layer, and its view

-- the order at one layer does not change where both ikeys are one higher
order-view : (a b : Key) → layer_order (key_view a) (key_view b) ≡ layer_order a b
unfolding layer_order
order-view a b = rw (compare.suc-suc a.0 b.0) refl

pub lookup-view : (l : ℕ) (k : Key) (es : List (Key × Value l))
    → lookup layer_order (key_view k) (map (λ e. (key_view e.0, value_view l e.1)) es) ≡ map_option (value_view l) (lookup layer_order k es)
unfolding lookup
lookup-view l k [] = refl
lookup-view l k (e ∷ es) = rw (order-view k e.0) (go (layer_order k e.0) (lookup layer_order k es) (lookup-view l k es))
  where
    go : (o : Ordering) (x : Option (Value l))
        → lookup layer_order (key_view k) (map (λ e. (key_view e.0, value_view l e.1)) es) ≡ map_option (value_view l) x
        → pick o none (some (value_view l e.1)) (lookup layer_order (key_view k) (map (λ e. (key_view e.0, value_view l e.1)) es))
        ≡ map_option (value_view l) (pick o none (some e.1) x)
    go Ordering.lt x f = refl
    go Ordering.eq x f = refl
    go Ordering.gt x f = f

-- ---- all layers

module _ (m : Memory) (sound : Sound m) (at : ℕ → List ℕ × ℕ) (c : ℕ)
    (agree : (j : ℕ) → cell_key at c ≢ cell_key at j → cell_key at j ≡ key_at m.cells m.bytes j) where
  abbrev K : List ℕ
  K = cell_key at c

  abbrev M : NodeList Pointer
  M = nodes_view m

  -- the entry of the key's ikey and class, in the view of a layer
  entry-view : (l : ℕ) (v : Layer l) (ks : List ℕ)
      → lookup layer_order (layer_key ks K) (layer_view l v).1
      ≡ map_option (value_view l) (lookup layer_order (key_down m.cells m.bytes K (length ks)) v.1)
  entry-view l v ks =
      ap (λ (k : IkeyClass). lookup layer_order k (layer_view l v).1) (layer_key-at ks K (length ks) refl)
      ∙ lookup-view l (key_down m.cells m.bytes K (length ks)) v.1

  -- an entry more in one layer
  in-layer : (l : ℕ) (v : Layer l) (ks : List ℕ) → Known m sound at c l (layer_view l v) ks
      → memory_needs Pointer 15 (height_in M (layer_root l (layer_view l v))) (layer_key ks K).0 (0, layer_root l (layer_view l v)) M 1
      ≡ needed_in_layer (ikey_at K (8 * length ks)) v.0
  in-layer l v ks k =
      let t = v.0.1 in
      let h = v.0.0 in
      ap₂ (λ (d : ℕ) (x : IkeyClass). memory_needs Pointer 15 d x.0 (0, layer_root l (layer_view l v)) M 1)
      (high_is m sound at c l (layer_view l v) ks k) (layer_key-at ks K (length ks) refl)
      ∙ upward M (ikey_at K (8 * length ks)) h 0 0 right_edge t k.held.0.1
      (lows-agree Pointer 15 9 cut_place right_edge h 0 right_edge (tree_view h t) k.held.0.0) k.held.0.0 1

  pub layers-need : (l : ℕ) (v : Layer l) (ks : List ℕ) → Known m sound at c l (layer_view l v) ks
      → layers_need 15 at K l ks (layer_root l (layer_view l v)) M ≡ needed_from m.cells m.bytes K l (length ks) v
  layers-need zero v ks k = go (lookup layer_order (key_down m.cells m.bytes K (length ks)) v.1) refl
    where
      go : (o : Option ℕ) → lookup layer_order (key_down m.cells m.bytes K (length ks)) v.1 ≡ o
          → memory_needs Pointer 15 (height_in M (layer_root 0 (layer_view 0 v))) (layer_key ks K).0 (0, layer_root 0 (layer_view 0 v)) M 1
          ≡ from_option (needed_in_layer (ikey_at K (8 * length ks)) v.0) (needed_at_entry m.cells m.bytes K 0 (length ks)) o
      go none q = in-layer zero v ks k
      go (some b) q =
          absurd (none_last m sound at c (layer_view 0 v) ks k b (entry-view zero v ks ∙ ap (map_option (value_view zero)) q))
  layers-need (suc l) v ks k =
      rw (found m sound at c (suc l) (layer_view (suc l) v) ks k
      (map_option (value_view (suc l)) (lookup layer_order (key_down m.cells m.bytes K (length ks)) v.1)) (entry-view (suc l) v ks))
      (go (lookup layer_order (key_down m.cells m.bytes K (length ks)) v.1) refl (λ w. layers-need l w (path_down K ks)))
    where
      go : (o : Option (Value (suc l))) → lookup layer_order (key_down m.cells m.bytes K (length ks)) v.1 ≡ o
          → ((w : Layer l) → Known m sound at c l (layer_view l w) (path_down K ks)
          → layers_need 15 at K l (path_down K ks) (layer_root l (layer_view l w)) M
          ≡ needed_from m.cells m.bytes K l (length (path_down K ks)) w)
          → from_option
          (memory_needs Pointer 15 (height_in M (layer_root (suc l) (layer_view (suc l) v))) (layer_key ks K).0
          (0, layer_root (suc l) (layer_view (suc l) v)) M 1)
          (by_pointer (λ b. conflict_count K (cell_key at b) l (path_down K ks)) (λ q. layers_need 15 at K l (path_down K ks) q M))
          (map_option (pointer_of (suc l)) (map_option (value_view (suc l)) o))
          ≡ from_option (needed_in_layer (ikey_at K (8 * length ks)) v.0) (needed_at_entry m.cells m.bytes K (suc l) (length ks)) o
      go none q below = in-layer (suc l) v ks k
      go (some (inl b)) q below =
          let C = conflicting m sound at c l (layer_view (suc l) v) ks k b
          (entry-view (suc l) v ks ∙ ap (map_option (value_view (suc l))) q) in
          let z : l ≡ 31 - suc (length ks) = omega (arith, k.deep) in
          sym (layers-chain at K (cell_key at b) C.apart l (path_down K ks) C.fits_on C.other-on)
          ∙ ap (layers_of l K (cell_key at b)) (down-length K ks (length ks) refl)
          ∙ layers-lead K (cell_key at b) l (suc (length ks))
          ∙ ap₂ (λ (J : List ℕ) (n : ℕ). suc (leading (both_go_on K J) (up (suc (length ks)) n))) (agree b C.apart) z
      go (some (inr w)) q below =
          below w (known-below m sound at c l (layer_view (suc l) v) ks k (layer_view l w)
          (entry-view (suc l) v ks ∙ ap (map_option (value_view (suc l))) q))
          ∙ ap (λ (n : ℕ). needed_from m.cells m.bytes K l n w) (down-length K ks (length ks) refl)

-- ---- the whole, with the new key in a cell beyond those lent

module _ (m : Memory) (v : Layers) (t : Forest m v) (bytes : Bytes m.bytes) (K : List ℕ) (b : Bytes K) (short : length K ≤ 256)
    (absent : stored m K ≡ false) where
  abbrev beyond : ℕ
  beyond = cells_in m

  -- the cells of memory, and there the key
  unfoldable at : ℕ → List ℕ × ℕ
  at j = cond (eqb j beyond) (K, 0) (cell_at (cells_view m) j)

  key-is : cell_key at beyond ≡ K
  unfolding at
  key-is = ap (λ (b : Bool). (cond b (K, 0) (cell_at (cells_view m) beyond)).0) (eq-eqb beyond beyond refl)

  elsewhere : (j : ℕ) → (j ≡ beyond → ⊥) → at j ≡ cell_at (cells_view m) j
  unfolding at
  elsewhere j ne = ap (λ (b : Bool). cond b (K, 0) (cell_at (cells_view m) j)) (ne_eqb j beyond ne)

  abbrev s : Sound m
  s = sound-of m v t

  used-same : (j : ℕ) → 0 < layer_uses 31 (layer_view 31 v) j → at j ≡ cell_at (cells_view m) j
  used-same j h = elsewhere j (λ e. omega (arith, (to-trees m v t bytes).cells j, not-below j e))
    where
      not-below : (j : ℕ) → j ≡ beyond → ones_below beyond j ≡ 0
      not-below j e = rw (le-ltb j beyond (omega arith)) refl

  key-elsewhere : (j : ℕ) → (j ≡ beyond → ⊥) → cell_key at j ≡ key_at m.cells m.bytes j
  key-elsewhere j ne = ap (λ (x : List ℕ × ℕ). x.0) (elsewhere j ne) ∙ seen_key m s j

  agree : (j : ℕ) → 1 ≤ mark_at m.cells j → cell_key at j ≡ key_at m.cells m.bytes j
  agree j h = key-elsewhere j (λ e. omega (arith, marked-inside m s j h))

  -- the count on the way down is document 01's
  pub needed-as-said : needed m K ≡ needed_nodes m v K
  needed-as-said =
      (A.along m v t bytes K b short absent at beyond key-is used-same agree).0
      ∙ subst (λ (r : ℕ). layers_need 15 at K 31 [] r (nodes_view m) ≡ needed_nodes m v K) (to-trees m v t bytes).rooted
      (subst (λ (J : List ℕ). layers_need 15 at J 31 [] (layer_root 31 (layer_view 31 v)) (nodes_view m) ≡ needed_nodes m v J) key-is
      (layers-need m s at beyond (λ j ne. key-elsewhere j (λ e. ne (ap (cell_key at) (sym e)))) 31 v []
      (A.known m v t bytes K b short absent at beyond key-is used-same agree)))
