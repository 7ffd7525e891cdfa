-- The layers of a conflict over words: single-link leaves whose numbers follow, then a leaf with the two. Assumes nothing.
use mathlib.Core.Path.{◌≡◌, refl, sym, ap, ap₂, ◌∙◌, subst}
use mathlib.Core.Logic.{◌≢◌}
use mathlib.Core.Bool.{Bool, true, false, cond}
use mathlib.Core.List.{List, [], ◌∷◌, ◌++◌, map}
use mathlib.Core.Option.{none, some}
use Prim.Native.Nat.{ℕ, zero, suc, ◌+◌, ◌*◌, ◌≤◌, ◌<◌, Ordering}
use native.Mathlib.Omega.{arith}
use lib.Dec.{T, le→leb}
use lib.ListN.{length, get_or, set, take, drop}
use lib.Seq.{set_comm, set-set, get_or-set_other}
use Rattle.bank.specs.Lists.{here_or_later}
use Rattle.bank.proofs.Tests.{and_both}
use Rattle.order.specs.Layer.{ikey_at}
use Rattle.leaf_entries.specs.declared.Entry.{Entry}
use Rattle.leaf.specs.Lists.{every, first_where}
use Rattle.leaf.specs.Leaf as leaf
use Rattle.leaf.specs.Leaf.{less, rising}
use Rattle.leaf.proofs.Lists.{never}
use Rattle.arena.specs.Layout.{node_start, kind_at, put_leaf}
use Rattle.arena.specs.Free.{free_nodes}
use Rattle.forest.specs.Nodes.{entries_at, of_class, leaf_right}
use Rattle.forest.specs.Trees.{seen_as}
use Rattle.order.specs.Map.{a[], s[], ◌s∷◌, pick, alter, lookup, Sorted}
use Rattle.order.proofs.Map.{alter-sorted}
use Rattle.trees.specs.Nodes.{IkeyClass, layer_order, Node, free, leaf, NodeList, node_in, one_at, InUse}
use Rattle.trees.specs.FreeNumbers.{free_numbers, lowest_free}
use Rattle.trees.specs.Paths.{rest_below, layer_key, path_down}
use Rattle.trees.specs.Entries.{cell_key, FitsLayers}
use Rattle.trees.specs.Layers.{Pointer, cell, link}
use Rattle.trees.specs.LayersPut.{conflict_count, conflict_leaf, conflict_written}
use Rattle.trees.proofs.Nodes.{layer-order, one_at-other}
use Rattle.trees.proofs.FreeNumbers.{free-kept, in-use-not-lowest, lowest-taken}
use Rattle.trees.proofs.Paths.{down-length}
use Rattle.trees.proofs.EntriesPut.{short-class, same_key, both-longer}
use Rattle.trees.proofs.WholeCalls.{one_at-zero}
use Rattle.model.specs.Leaves.{fresh_node, leaf_with}
use Rattle.model.specs.Needed.{both_go_on}
use Rattle.model.specs.Grow.{entry_for, entries_in_order, link_for, Label, both_put, layers_grown}
use Rattle.model.specs.Meet.{number_word}
use Rattle.growth.proofs.Frames.{Same}
use Rattle.growth.proofs.ParentGrown.{same_kind}
use Rattle.growth.proofs.Memory.{Nodes, View, Wrote, frees-view, free_of}
use Rattle.growth.proofs.Entries.{view_of, key_of, altered, view-cell, sorted_rises}
use Rattle.growth.proofs.LeafWrites.{entry_node, entries-put, leaf-put-right, leaf-put, first_slot}
use Rattle.growth.proofs.Holders.{Holding, link_of, link-holding}
use Rattle.growth.proofs.LayerKeys.{layer-key, go-on-eq, go-on-means, go_on, fits-down}
use Rattle.growth.proofs.LayersGrown.{layers-set}

-- words that are the trees' memory; a node in use that is none of `own` keeps its words
pub record Becomes (own : ℕ → ℕ) (nodes : List ℕ) (n : ℕ) (result : List ℕ) (m : NodeList Pointer) : Type 0 where
  pub still : Nodes result n
  pub view : View result n ≡ m
  pub head : (i : ℕ) → i < 2 → get_or result i 0 ≡ get_or nodes i 0
  pub kept : (j : ℕ) → own j ≡ 0 → kind_at nodes j ≢ 0 → Same nodes result j

module _ (at : ℕ → List ℕ × ℕ) (K : List ℕ) (c b : ℕ) (ne : K ≢ cell_key at b) where
  abbrev J : List ℕ
  J = cell_key at b

  abbrev new : Label
  new = record { key = K; cell = c }

  abbrev stored : Label
  stored = record { key = J; cell = b }

  -- ---- the two in one leaf

  abbrev of_new : ℕ → Entry
  of_new links = entry_for K c links

  abbrev of_stored : ℕ → Entry
  of_stored links = entry_for J b links

  small : (X : List ℕ) (d links : ℕ) → (entry_for X d links).class ≤ 9
  unfolding entry_for
  small X d links = omega arith

  view-for : (X : List ℕ) (d : ℕ) (ks : List ℕ) → view_of (entry_for X d (length ks)) ≡ (layer_key ks X, cell d)
  unfolding entry_for
  view-for X d ks = view-cell (entry_for X d (length ks)) (small X d (length ks))
      ∙ ap (λ (k : IkeyClass). (k, cell d)) (sym (layer-key ks X))

  none_of : (o : Ordering) → o ≢ Ordering.eq → (p : Pointer) → pick o none (some p) none ≡ none
  none_of Ordering.lt h p = refl
  none_of Ordering.eq h p = absurd (h refl)
  none_of Ordering.gt h p = refl

  in_order : (x y : Entry) (t : Bool) → take (here_or_later t zero) (y ∷ []) ++ x ∷ drop (here_or_later t zero) (y ∷ [])
      ≡ cond t (x ∷ y ∷ []) (y ∷ x ∷ [])
  in_order x y true = refl
  in_order x y false = refl

  module _ (ks : List ℕ) (apart : layer_order (layer_key ks K) (layer_key ks J) ≢ Ordering.eq) where
    abbrev links : ℕ
    links = length ks

    abbrev two : List Entry
    two = entries_in_order (of_new links) (of_stored links)

    class_of : (X : List ℕ) (d : ℕ) → T (of_class (entry_for X d links))
    class_of X d = le→leb (entry_for X d links).class 10 (omega (arith, small X d links))

    pair_is : conflict_leaf at K c ks b ≡ map view_of two
    unfolding lookup every first_where entry_for
    pair_is =
        let e = of_new links in
        let d = of_stored links in
        let k-is : key_of e (small K c links) ≡ layer_key ks K = sym (layer-key ks K) in
        let no : lookup layer_order (key_of e (small K c links)) (view_of d ∷ []) ≡ none =
        ap₂ (λ (x : IkeyClass) (y : IkeyClass × Pointer). lookup layer_order x (y ∷ [])) k-is (view-for J b ks)
        ∙ none_of (layer_order (layer_key ks K) (layer_key ks J)) apart (cell b) in
        sym (ap₂ (λ (x : IkeyClass) (y : IkeyClass × Pointer). alter layer_order x (λ o. some (cell c)) (y ∷ [])) k-is (view-for J b ks))
        ∙ altered e (small K c links) (d ∷ []) (and_both (of_class d) true (class_of J b) tt) no
        ∙ ap (map view_of) (in_order e d (less e d))

    two-few : length two ≤ 15
    two-few = by (less (of_new links) (of_stored links))
      where
        by : (t : Bool) → length (cond t (of_new links ∷ of_stored links ∷ []) (of_stored links ∷ of_new links ∷ [])) ≤ 15
        by true = omega arith
        by false = omega arith

    two-classes : T (every of_class two)
    unfolding every
    two-classes = by (less (of_new links) (of_stored links))
      where
        both : (x y : Entry) → T (of_class x) → T (of_class y) → T (every of_class (x ∷ y ∷ []))
        both x y s t = and_both (of_class x) _ s (and_both (of_class y) true t tt)

        by : (t : Bool) → T (every of_class (cond t (of_new links ∷ of_stored links ∷ []) (of_stored links ∷ of_new links ∷ [])))
        by true = both (of_new links) (of_stored links) (class_of K c) (class_of J b)
        by false = both (of_stored links) (of_new links) (class_of J b) (class_of K c)

    two-rise : T (rising two)
    two-rise = sorted_rises two two-classes (subst (Sorted layer_order) pair_is
        (alter-sorted layer-order (layer_key ks K) (λ o. some (cell c)) (a[] s∷ s[])))

    both-wrote : (nodes : List ℕ) (n : ℕ) → Nodes nodes n → (f : ℕ) → f < n
        → Wrote nodes (both_put nodes f new stored links) n f (leaf (conflict_leaf at K c ks b))
    both-wrote nodes n N f h =
        subst (λ (xs : List (IkeyClass × Pointer)). Wrote nodes (both_put nodes f new stored links) n f (leaf xs)) (sym pair_is)
        (leaf-put two two-few nodes n N f h two-classes two-rise)

    -- the last layer
    base-grown : (nodes : List ℕ) (n : ℕ) (N : Nodes nodes n) (holder k : ℕ) (X : ℕ → Node Pointer) → Holding nodes n holder k X
        → {f : ℕ} {fs : List ℕ} → free_nodes nodes n ≡ f ∷ fs
        → Becomes (one_at k) nodes n (both_put (set nodes holder (fresh_node nodes n)) (fresh_node nodes n) new stored links)
        (set (set (View nodes n) (lowest_free (View nodes n)) (leaf (conflict_leaf at K c ks b))) k (X (lowest_free (View nodes n))))
    base-grown nodes n N holder k X H {f} {fs} fe =
        let f< = (free_of nodes n N fe).0 in
        let ve : free_numbers 0 (View nodes n) ≡ f ∷ fs = frees-view nodes n N ∙ fe in
        let f-is : fresh_node nodes n ≡ f = ap (λ (l : List ℕ). get_or l 0 0) fe in
        let fresh-is : lowest_free (View nodes n) ≡ f = ap (λ (l : List ℕ). get_or l 0 0) ve in
        let W0 = H.puts f in
        let W1 = both-wrote (set nodes holder f) n W0.still f f< in
        rw (f-is, fresh-is) (record {
          still = W1.still;
          view = W1.view ∙ ap (λ (m : NodeList Pointer). set m f (leaf (conflict_leaf at K c ks b))) W0.view
              ∙ set_comm (View nodes n) k f (X f) (leaf (conflict_leaf at K c ks b)) (in-use-not-lowest (View nodes n) k f fs H.used ve);
          head = λ i l. W1.head i l ∙ W0.head i l;
          kept = λ j z u i l. W1.others j (λ q. u (ap (kind_at nodes) q ∙ (free_of nodes n N fe).1)) i l
              ∙ W0.others j (one_at-other k j z) i l;
        })

  -- ---- a single-link leaf

  module _ (ks : List ℕ) where
    abbrev ikey : ℕ
    ikey = ikey_at K (8 * length ks)

    abbrev single : List Entry
    single = link_for K (length ks) ∷ []

    -- the leaf with a link to v
    abbrev linking : ℕ → Node Pointer
    linking v = entry_node (link_of ikey v ∷ [])

    single-rises : T (rising single)
    unfolding rising
    single-rises = tt

    single-classes : T (every of_class single)
    unfolding every
    single-classes = tt

    linking-is : (layer_key ks K).1 ≡ 9 → (v : ℕ) → linking v ≡ leaf ((layer_key ks K, link v) ∷ [])
    unfolding seen_as
    linking-is e v = ap (λ (k : IkeyClass). leaf ((k, link v) ∷ [])) (sym (pairs (ap (λ (k : IkeyClass). k.0) (layer-key ks K)) e))
      where
        pairs : {k : IkeyClass} {a d : ℕ} → k.0 ≡ a → k.1 ≡ d → k ≡ (a, d)
        pairs p q = λ i. (p i, q i)

    single-holding : (nodes : List ℕ) (n : ℕ) (N : Nodes nodes n) (f : ℕ) (f< : f < n)
        → Holding (put_leaf nodes f (leaf_with single)) n (node_start f + 32) f linking
    single-holding nodes n N f f< =
        let m = put_leaf nodes f (leaf_with single) in
        let W = leaf-put single (omega arith) nodes n N f f< single-classes single-rises in
        let t : T (leaf_right m f) = leaf-put-right single (omega arith) nodes n N f f< single-classes single-rises in
        let es : entries_at m f ≡ single = entries-put single (omega arith) nodes n N f f< in
        let H = link-holding m n W.still f f< t 0 (omega (arith, ap length es))
        (ap (λ (xs : List Entry). (get_or xs 0 leaf.none).class) es) in
        let z : number_word m f 0 ≡ node_start f + 32 = ap (λ (s : ℕ). node_start f + 32 + s)
        (first_slot single (omega arith) nodes n N f f< (omega arith))
        ∙ (let y : node_start f + 32 + 0 ≡ node_start f + 32 = omega arith in y) in
        subst (λ (xs : List Entry). Holding m n (node_start f + 32) f
        (λ v. entry_node (take 0 xs ++ link_of (get_or xs 0 leaf.none).ikey v ∷ drop 1 xs))) es
        (subst (λ (w : ℕ). Holding m n w f (λ v. entry_node
        (take 0 (entries_at m f) ++ link_of (get_or (entries_at m f) 0 leaf.none).ikey v ∷ drop 1 (entries_at m f)))) z H)

    -- ---- and what follows it

    module _ (l : ℕ) (nodes : List ℕ) (n : ℕ) (N : Nodes nodes n) (holder k : ℕ) (X : ℕ → Node Pointer)
        (H : Holding nodes n holder k X) {f : ℕ} {fs : List ℕ} (fe : free_nodes nodes n ≡ f ∷ fs)
        (nine : (layer_key ks K).1 ≡ 9) (enough : conflict_count K J l (path_down K ks) ≤ length fs) where
      abbrev seen : NodeList Pointer
      seen = View nodes n

      abbrev m1 : List ℕ
      m1 = set nodes holder f

      abbrev m2 : List ℕ
      m2 = put_leaf m1 f (leaf_with single)

      ve : free_numbers 0 seen ≡ f ∷ fs
      ve = frees-view nodes n N ∙ fe

      f< : f < n
      f< = (free_of nodes n N fe).0

      k≢f : k ≢ f
      k≢f = in-use-not-lowest seen k f fs H.used ve

      W0 : Wrote nodes m1 n k (X f)
      W0 = H.puts f

      W1 : Wrote m1 m2 n f (linking 0)
      W1 = leaf-put single (omega arith) m1 n W0.still f f< single-classes single-rises

      pub next-holding : Holding m2 n (node_start f + 32) f linking
      next-holding = single-holding m1 n W0.still f f<

      seen1 : View m1 n ≡ set seen k (X f)
      seen1 = W0.view

      seen2 : View m2 n ≡ set (set seen k (X f)) f (linking 0)
      seen2 = W1.view ∙ ap (λ (m : NodeList Pointer). set m f (linking 0)) seen1

      frees2 : free_numbers 0 (View m2 n) ≡ fs
      frees2 = ap (free_numbers 0) seen2 ∙ (lowest-taken (set seen k (X f)) f fs (linking 0) tt
          (free-kept seen 0 k (X f) H.used (H.used-after f) ∙ ve)).1

      -- the trees' memory after the single-link leaf
      abbrev deep : NodeList Pointer
      deep = set seen f (leaf ((layer_key ks K, link (get_or fs 0 0)) ∷ []))

      moved : set (conflict_written at K c b l (path_down K ks) (View m2 n)) f (linking (lowest_free (View m2 n)))
          ≡ set (conflict_written at K c b l (path_down K ks) deep) k (X f)
      moved =
          let f2 : lowest_free (View m2 n) ≡ get_or fs 0 0 = ap (λ (l : List ℕ). get_or l 0 0) frees2 in
          let x : Node Pointer = leaf ((layer_key ks K, link (get_or fs 0 0)) ∷ []) in
          let x-is : linking (lowest_free (View m2 n)) ≡ x =
          linking-is nine (lowest_free (View m2 n)) ∙ ap (λ (i : ℕ). leaf ((layer_key ks K, link i) ∷ [])) f2 in
          let en2 : conflict_count K J l (path_down K ks) ≤ length (free_numbers 0 (View m2 n)) = omega (arith, enough, ap length frees2) in
          let end3 : conflict_count K J l (path_down K ks) ≤ length (free_numbers 0 deep) =
          omega (arith, enough, ap length (lowest-taken seen f fs x tt ve).1) in
          let kept : InUse (node_in deep k) = subst InUse (sym (get_or-set_other seen f k x free k≢f)) H.used in
          ap (set (conflict_written at K c b l (path_down K ks) (View m2 n)) f) x-is
          ∙ sym (layers-set at K c b l (path_down K ks) (View m2 n) f x next-holding.used tt en2)
          ∙ ap (conflict_written at K c b l (path_down K ks))
          (ap (λ (m : NodeList Pointer). set m f x) seen2 ∙ set-set (set seen k (X f)) f (linking 0) x ∙ set_comm seen k f (X f) x k≢f)
          ∙ layers-set at K c b l (path_down K ks) deep k (X f) kept (H.used-after f) end3

      -- the nodes that are neither the holder's nor free
      kept2 : (j : ℕ) → one_at k j ≡ 0 → kind_at nodes j ≢ 0 → Same nodes m2 j
      kept2 j z u i l = W1.others j (λ q. u (ap (kind_at nodes) q ∙ (free_of nodes n N fe).1)) i l ∙ W0.others j (one_at-other k j z) i l

      kept-deep : (R : List ℕ) → Becomes (one_at f) m2 n R
          (set (conflict_written at K c b l (path_down K ks) (View m2 n)) f (linking (lowest_free (View m2 n))))
          → (j : ℕ) → one_at k j ≡ 0 → kind_at nodes j ≢ 0 → Same nodes R j
      kept-deep R G j z u i l =
          G.kept j (one_at-zero f j (λ q. u (ap (kind_at nodes) (sym q) ∙ (free_of nodes n N fe).1)))
          (λ y. u (sym (same_kind nodes m2 j (kept2 j z u)) ∙ y)) i l ∙ kept2 j z u i l

      deep-grown : (R : List ℕ) → Becomes (one_at f) m2 n R
          (set (conflict_written at K c b l (path_down K ks) (View m2 n)) f (linking (lowest_free (View m2 n))))
          → Becomes (one_at k) nodes n R
          (set (conflict_written at K c b l (path_down K ks)
          (set seen (lowest_free seen) (leaf ((layer_key ks K, link (get_or (free_numbers 0 seen) 1 0)) ∷ [])))) k (X (lowest_free seen)))
      deep-grown R G =
          rw ve (record {
            still = G.still;
            view = G.view ∙ moved;
            head = λ i l. G.head i l ∙ W1.head i l ∙ W0.head i l;
            kept = kept-deep R G;
          })

  -- ---- all of them

  with_first : {A : Type 0} (fs : List ℕ) → 1 ≤ length fs → ((f : ℕ) (gs : List ℕ) → fs ≡ f ∷ gs → A) → A
  with_first [] h go = absurd (omega arith)
  with_first (f ∷ gs) h go = go f gs refl

  abbrev Grown : (l : ℕ) (ks nodes : List ℕ) (n holder k : ℕ) (X : ℕ → Node Pointer) → Type 0
  Grown l ks nodes n holder k X = Becomes (one_at k) nodes n (layers_grown l nodes n holder new stored (length ks))
      (set (conflict_written at K c b l ks (View nodes n)) k (X (lowest_free (View nodes n))))

  pub layers-grown : (l : ℕ) (ks nodes : List ℕ) (n : ℕ) (N : Nodes nodes n) (holder k : ℕ) (X : ℕ → Node Pointer)
      → Holding nodes n holder k X
      → FitsLayers at l ks K → FitsLayers at l ks J → conflict_count K J l ks ≤ length (free_numbers 0 (View nodes n))
      → Grown l ks nodes n holder k X
  unfolding layers_grown
  layers-grown zero ks nodes n N holder k X H fK fJ en =
      with_first (free_nodes nodes n) (omega (arith, en, ap length (frees-view nodes n N))) (λ f gs fe. base-grown ks
      (λ q. ne (same_key ks K J fK.0 fJ.0 (layer-order.exact _ _ q) (short-class (rest_below ks K) (omega (arith, fK.1))))) nodes n
      N holder k X H fe)
  layers-grown (suc l) ks nodes n N holder k X H fK fJ en =
      subst (λ (m : NodeList Pointer). Becomes (one_at k) nodes n
      (cond (both_go_on K J (length ks))
      (layers_grown l (put_leaf (set nodes holder (fresh_node nodes n)) (fresh_node nodes n) (leaf_with (link_for K (length ks) ∷ []))) n
      (node_start (fresh_node nodes n) + 32) new stored (suc (length ks)))
      (both_put (set nodes holder (fresh_node nodes n)) (fresh_node nodes n) new stored (length ks)))
      (set m k (X (lowest_free (View nodes n)))))
      (sym (go_on at (suc l) ks K J fK fJ ne
      (conflict_written at K c b l (path_down K ks) (set (View nodes n) (lowest_free (View nodes n))
      (leaf ((layer_key ks K, link (get_or (free_numbers 0 (View nodes n)) 1 0)) ∷ []))))
      (set (View nodes n) (lowest_free (View nodes n)) (leaf (conflict_leaf at K c ks b)))))
      (by (both_go_on K J (length ks)) refl
      (subst (λ (i : ℕ). i ≤ length (free_numbers 0 (View nodes n)))
      (go_on at (suc l) ks K J fK fJ ne (suc (conflict_count K J l (path_down K ks))) 1) en)
      (λ f m2 N2 H2 en2 t. let (gK, gJ) = fits-down at K J ne l ks fK fJ t in layers-grown l (path_down K ks) m2 n N2 (node_start f + 32) f
      (linking ks) H2 gK gJ en2))
    where
      by : (g : Bool) → both_go_on K J (length ks) ≡ g → cond g (suc (conflict_count K J l (path_down K ks))) 1
          ≤ length (free_numbers 0 (View nodes n))
          → ((f : ℕ) (m2 : List ℕ) → Nodes m2 n → Holding m2 n (node_start f + 32) f (linking ks)
          → conflict_count K J l (path_down K ks) ≤ length (free_numbers 0 (View m2 n)) → both_go_on K J (length ks) ≡ true
          → Grown l (path_down K ks) m2 n (node_start f + 32) f (linking ks))
          → Becomes (one_at k) nodes n
          (cond g
          (layers_grown l (put_leaf (set nodes holder (fresh_node nodes n)) (fresh_node nodes n) (leaf_with (link_for K (length ks) ∷ []))) n
          (node_start (fresh_node nodes n) + 32) new stored (suc (length ks)))
          (both_put (set nodes holder (fresh_node nodes n)) (fresh_node nodes n) new stored (length ks)))
          (set
          (cond g (conflict_written at K c b l (path_down K ks)
          (set (View nodes n) (lowest_free (View nodes n)) (leaf ((layer_key ks K, link (get_or (free_numbers 0 (View nodes n)) 1 0)) ∷ []))))
          (set (View nodes n) (lowest_free (View nodes n)) (leaf (conflict_leaf at K c ks b)))) k (X (lowest_free (View nodes n))))
      by false t en ih =
          with_first (free_nodes nodes n) (omega (arith, en, ap length (frees-view nodes n N)))
          (λ f gs fe. base-grown ks (λ q. never (sym (go-on-eq at (suc l) ks K J fK fJ ne q) ∙ t)) nodes n N holder k X H fe)
      by true t en ih =
          with_first (free_nodes nodes n) (omega (arith, en, ap length (frees-view nodes n N))) (λ f gs fe.
          let q = layer-order.exact (layer_key ks K) (layer_key ks J) (go-on-means at (suc l) ks K J fK fJ ne t) in
          let nine : (layer_key ks K).1 ≡ 9 = ap (λ (x : IkeyClass). x.1) (both-longer at (suc l) ks K J fK fJ ne q) in
          let en2 : conflict_count K J l (path_down K ks) ≤ length gs = omega (arith, en, ap length (frees-view nodes n N ∙ fe)) in
          let f-is : fresh_node nodes n ≡ f = ap (λ (xs : List ℕ). get_or xs 0 0) fe in
          let m2 = put_leaf (set nodes holder f) f (leaf_with (link_for K (length ks) ∷ [])) in
          let W1 = W1 ks l nodes n N holder k X H fe nine en2 in
          let R = ih f m2 W1.still (next-holding ks l nodes n N holder k X H fe nine en2)
          (omega (arith, en2, ap length (frees2 ks l nodes n N holder k X H fe nine en2))) t in
          rw f-is (deep-grown ks l nodes n N holder k X H fe nine en2 _
          (subst (λ (i : ℕ). Becomes (one_at f) m2 n (layers_grown l m2 n (node_start f + 32) new stored i)
          (set (conflict_written at K c b l (path_down K ks) (View m2 n)) f (linking ks (lowest_free (View m2 n)))))
          (down-length K ks (length ks) refl) R)))
