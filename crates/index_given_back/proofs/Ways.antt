-- An empty layer at the end of a key's way: the link to it goes, and its node; then the way ends one layer higher. Assumes nothing.
use mathlib.Core.Path.{◌≡◌, refl, sym, ap, ◌∙◌, subst}
use mathlib.Core.Logic.{inr}
use mathlib.Core.List.{List, [], ◌∷◌, ◌++◌, map}
use mathlib.Core.Option.{Option, none, some}
use Prim.Native.Nat.{ℕ, zero, suc, ◌+◌, ◌-◌, ◌*◌, ◌%◌, ◌≤◌, ◌<◌, Ordering}
use native.Mathlib.Omega.{arith}
use lib.Dec.{T, ltb, eqb, eqb→eq}
use lib.ListN.{length, get_or, set}
use Rattle.bank.proofs.Tests.{and_left, and_right}
use Rattle.order.specs.Layer.{ikey_at, class_at}
use Rattle.order.specs.Map.{All, a[], ◌a∷◌, Sorted, s[], ◌s∷◌, alter, lookup}
use Rattle.order.proofs.Lookup.{lookup-alter}
use Rattle.order.specs.Options.{map_option, worth}
use Rattle.order.proofs.Changes.{worth-le, lookup-map, lookup-all, alter-map}
use Rattle.leaf.specs.Search.{place_equal}
use Rattle.arena.specs.Layout.{node_start, word_at, kind_at}
use Rattle.arena.specs.Memory.{Memory}
use Rattle.forest.specs.Nodes.{entries_at}
use Rattle.model.specs.Meet.{number_word}
use Rattle.model.specs.declared.Met.{Met}
use Rattle.model.specs.declared.Met.TheVariants.{Stored, Conflict, Missing}
use Rattle.trees.specs.Nodes.{IkeyClass, layer_order, free, leaf, NodeList, node_in}
use Rattle.trees.specs.FreeNumbers.{free_numbers, times_in}
use Rattle.trees.specs.Cut.{cut_place}
use Rattle.trees.specs.PutInMemory.{layer_put}
use Rattle.trees.specs.Paths.{BelowLinks, layer_key, path_down}
use Rattle.trees.specs.Entries.{RightLayer, RightValue, from_option}
use Rattle.trees.specs.Layers.{Pointer, link, LayeredValue, Layered, bare_value, bare_entry, layer_root, pointer_entry, value_reaches}
use Rattle.trees.specs.Layers.{layer_reaches, HoldsValue, HoldsLayer}
use Rattle.trees.proofs.Nodes.{layer-order}
use Rattle.trees.proofs.Cut.{cut-exists}
use Rattle.trees.proofs.Paths.{raised_ikey-lt, bytes_rest, class-le, down-length}
use Rattle.trees.proofs.EntriesPut.{below-one-more}
use Rattle.trees.proofs.Relinked.{layer-found}
use Rattle.views.specs.Views.{node_view, nodes_view}
use Rattle.views.proofs.Nodes.{nodes_in, leaf-view}
use Rattle.views.proofs.LayerViews.{right_edge}
use Rattle.places.proofs.Entries.{view_all}
use Rattle.places.proofs.Down.{leaf-words}
use Rattle.places.proofs.Looks.{seen-node}
use Rattle.places.proofs.Meets.{Entered, Way, missing, conflict, below}
use Rattle.places.proofs.Meets as way
use Rattle.places.proofs.Taken.{without_at}
use Rattle.places.proofs.LeafLess.{left_at, MayGo, gone-layer}
use Rattle.trees.specs.Tree.{AnyTree}
use Rattle.model.specs.GivenBack.{empty_leaf, link_place, empty_layer, to_give_back}
use Rattle.index_given_back.proofs.Entries.{Alike, alike-gone, alike-below}
use Rattle.index_given_back.proofs.Hollow.{hollow, Gave, gave-above, gave-here}
use Rattle.index_given_back.proofs.Upward.{trees_at, trees_up, hollow-up, Shorter, shorter, shorter-under, layer-less}

-- the key is missing, below so many links
abbrev pub EndsBelow : ℕ → Met → Type 0
EndsBelow links (Stored lf position cell) = ⊥
EndsBelow links (Conflict lf position cell n) = ⊥
EndsBelow links (Missing holder root n) = n ≡ links

-- the way ends at an empty layer, below the link at position p of leaf lf
abbrev pub EndsAt : Met → (ℕ → ℕ → ℕ → Type 0) → Type 0
EndsAt (Stored lf position cell) P = ⊥
EndsAt (Conflict lf position cell links) P = ⊥
EndsAt (Missing holder root links) P = P holder root links

-- no entry has the key's ikey and class: the way ends here
ends-here : (m : Memory) (K : List ℕ) {l : ℕ} {v : Layered l} {ks : List ℕ} {holder : ℕ} {o : Met}
    → lookup layer_order (layer_key ks K) v.1 ≡ none → Way m K l v ks holder o → EndsBelow (length ks) o
ends-here m K e (missing _ _ _ _ q) = refl
ends-here m K e (way.stored _ _ _ _ _ _ _ q _ _ _) = let z : ◌≡◌ {A = ℕ} 0 1 = cc in absurd (omega arith)
ends-here m K e (conflict _ _ _ _ _ _ _ q _ _ _) = let z : ◌≡◌ {A = ℕ} 0 1 = cc in absurd (omega arith)
ends-here m K e (below _ _ _ _ _ _ _ _ q _ _) = let z : ◌≡◌ {A = ℕ} 0 1 = cc in absurd (omega arith)

same-layer : (l : ℕ) (x y : Layered l) → ◌≡◌ {A = Option (LayeredValue (suc l))} (some (inr x)) (some (inr y)) → x ≡ y
same-layer l x y e = cc

-- a layer has the key's ikey and class: the way ends where it does from there
ends-below : (m : Memory) (K : List ℕ) (links : ℕ) {l : ℕ} {v : Layered (suc l)} {ks : List ℕ} {holder : ℕ} {o : Met} (x : Layered l)
    → lookup layer_order (layer_key ks K) v.1 ≡ some (inr x)
    → ((holder : ℕ) (o : Met) → Way m K l x (path_down K ks) holder o → EndsBelow links o)
    → Way m K (suc l) v ks holder o → EndsBelow links o
ends-below m K links x e f (missing _ _ _ _ q) = let z : ◌≡◌ {A = ℕ} 0 1 = cc in absurd (omega arith)
ends-below m K links x e f (way.stored _ _ _ _ _ _ _ q _ _ _) = let z : ◌≡◌ {A = ℕ} 0 1 = cc in absurd (omega arith)
ends-below m K links x e f (conflict _ _ _ _ _ _ _ q _ _ _) = let z : ◌≡◌ {A = ℕ} 0 1 = cc in absurd (omega arith)
ends-below m K links {l} {ks = ks} x e f (below _ _ _ _ lf p w o q _ rest) =
    f (number_word m.nodes lf p) o
    (subst (λ (y : Layered l). Way m K l y (path_down K ks) (number_word m.nodes lf p) o) (same-layer l w x (sym q ∙ e)) rest)

-- entries whose values are seen otherwise are sorted as they were
sorted-unmapped : {X W Y : Type 0} {cmp : X → X → Ordering} (f : W → Y) (es : List (X × W)) → Sorted cmp (map (λ e. (e.0, f e.1)) es)
    → Sorted cmp es
sorted-unmapped f [] s[] = s[]
sorted-unmapped {X} {W} {Y} {cmp} f (e ∷ es) (a s∷ s) = all es a s∷ sorted-unmapped f es s
  where
    all : (es : List (X × W)) → All {A = X × Y} (λ d. cmp e.0 d.0 ≡ Ordering.lt) (map (λ e. (e.0, f e.1)) es)
        → All {A = X × W} (λ d. cmp e.0 d.0 ≡ Ordering.lt) es
    all [] a[] = a[]
    all (d ∷ ds) (q a∷ qs) = q a∷ all ds qs

module _ (m : Memory) (K : List ℕ) (whole : length m.nodes ≡ 2 + nodes_in m * 47) (few : nodes_in m ≤ 255)
    (at : ℕ → List ℕ × ℕ) where
  abbrev M : NodeList Pointer
  M = nodes_view m

  -- memory as the trees have it: position p gone from leaf lf, and node n free
  abbrev pub given_view : ℕ → ℕ → ℕ → NodeList Pointer
  given_view lf p n = set (left_at m lf p) n free

  -- leaf n goes from below a layer, by the link at position p of leaf lf, so many links down: in any memory that has what is left, the
  -- key is missing there
  pub record Goes (l : ℕ) (v : Layered l) (ks : List ℕ) (lf p n links : ℕ) : Type 0 where
    pub may-go : MayGo m lf p
    pub is-empty : node_in M n ≡ leaf []
    pub after : Layered l
    pub gave : Gave 15 9 cut_place right_edge M (given_view lf p n) n l v after
    pub alike : Alike at l ks (map (bare_entry l) v.1) (map (bare_entry l) after.1)
    pub ends : (x : Memory) (holder : ℕ) (o : Met) → Way x K l after ks holder o → EndsBelow links o
    pub fewer : Shorter n (trees_up K l v ks) (trees_up K l after ks)

  module _ (l : ℕ) (v : Layered (suc l)) (ks : List ℕ) (uk : BelowLinks ks K) (H : HoldsLayer 15 right_edge (suc l) M v)
      (G : RightLayer at (suc l) ks (map (bare_entry (suc l)) v.1))
      (u : (j : ℕ) → layer_reaches (suc l) v j + times_in (free_numbers 0 M) j ≤ 1) where
    abbrev k : IkeyClass
    k = layer_key ks K

    small : (layer_key ks K).0 < right_edge
    unfolding layer_key
    small = raised_ikey-lt (bytes_rest ks K uk)

    bare-found : (x : Layered l) → lookup layer_order (layer_key ks K) v.1 ≡ some (inr x)
        → lookup layer_order (layer_key ks K) (map (bare_entry (suc l)) v.1) ≡ some (bare_value (suc l) (inr x))
    bare-found x q = lookup-map layer_order (layer_key ks K) (bare_value (suc l)) v.1 ∙ ap (map_option (bare_value (suc l))) q

    its-order : Sorted layer_order v.1
    its-order = sorted-unmapped (bare_value (suc l)) v.1 G.0

    -- the link itself is here
    here : (lf p n : ℕ) → lookup layer_order (layer_key ks K) v.1 ≡ some (inr (hollow l n))
        → Entered m K (layer_root (suc l) v) (length ks) lf p (link n) → Goes (suc l) v ks lf p n (length ks)
    here lf p n q E =
        let (e, L) = gone-layer m K whole few 9 cut_place at (suc l) v ks uk H (λ j. omega (arith, u j)) lf p (link n) E in
        let tall = (layer-found 15 9 cut_place right_edge (suc l) M v k small H (λ j. omega (arith, u j))).0 in
        let held = lookup-all layer_order k layer-order (λ k v. HoldsValue 15 right_edge M (suc l) v) H.2 (inr (hollow l n)) q in
        let (w, D, E) = gave-here 15 9 cut_place right_edge (cut-exists 9) (omega arith) (omega arith) (omega arith) M (left_at m lf p) n l v k
        small (class-le ks K) H u q
        (ap (λ (d : ℕ). layer_put Pointer 15 9 cut_place d k (λ o. none) (layer_root (suc l) v) M) (sym tall) ∙ e) in
        record {
          may-go = L;
          is-empty = held.0.1;
          after = w;
          gave = D;
          alike = subst (Alike at (suc l) ks (map (bare_entry (suc l)) v.1))
              (sym (ap (map (bare_entry (suc l))) E
              ∙ alter-map layer_order k (bare_value (suc l)) (λ _. none) (λ _. none) v.1 refl))
              (alike-gone at l ks (map (bare_entry (suc l)) v.1) k G (bare-found (hollow l n) q));
          ends = λ x holder o W. ends-here x K (ap (lookup layer_order k) E ∙ lookup-alter layer-order k (λ _. none) its-order) W;
          fewer =
              subst (λ (us : List (AnyTree Pointer)). Shorter n us (trees_up K (suc l) w ks))
              (sym (ap (λ (o : Option (LayeredValue (suc l))). from_option [] (trees_at K (suc l) ks) o ++ v.0 ∷ []) q
              ∙ ap (λ (us : List (AnyTree Pointer)). us ++ v.0 ∷ []) (hollow-up K l n ks)))
              (subst (Shorter n ((zero, (n, [])) ∷ v.0 ∷ []))
              (sym (ap (λ (o : Option (LayeredValue (suc l))). from_option [] (trees_at K (suc l) ks) o ++ w.0 ∷ [])
              (ap (lookup layer_order k) E ∙ lookup-alter layer-order k (λ _. none) its-order)))
              (shorter v.0 w.0 [] D.rooted
              (layer-less M lf n L.had (view_all (without_at p (entries_at m.nodes lf))) L.is_leaf held.0.1 15 right_edge
              (suc l) v w k (inr (hollow l n)) H D.holds D.rooted q E)));
        }

    -- what a layer below needs
    pub record Fit (x : Layered l) : Type 0 where
      pub under : BelowLinks (path_down K ks) K
      pub has : HoldsLayer 15 right_edge l M x
      pub right : RightLayer at l (path_down K ks) (map (bare_entry l) x.1)
      pub once : (j : ℕ) → layer_reaches l x j + times_in (free_numbers 0 M) j ≤ 1

    pub fit : (x : Layered l) → lookup layer_order (layer_key ks K) v.1 ≡ some (inr x) → Fit x
    fit x q =
        let g = lookup-all layer_order k layer-order (RightValue at (suc l) ks) G.1 (bare_value (suc l) (inr x)) (bare-found x q) in
        record {
          under = below-one-more ks k.0 K uk (ap (λ (y : ℕ). (k.0, y)) g.0);
          has = lookup-all layer_order k layer-order (λ k v. HoldsValue 15 right_edge M (suc l) v) H.2 (inr x) q;
          right = (g.1, g.2);
          once = λ j. omega (
            arith,
            u j,
            worth-le layer_order k (λ y. value_reaches (suc l) y j) v.1,
            ap (worth (λ y. value_reaches (suc l) y j)) q,
          );
        }

    -- or it is further down
    further : (lf p n links : ℕ) (x : Layered l) → lookup layer_order (layer_key ks K) v.1 ≡ some (inr x)
        → Goes l x (path_down K ks) lf p n links → Goes (suc l) v ks lf p n links
    further lf p n links x q B =
        record {
          may-go = B.may-go;
          is-empty = B.is-empty;
          after = (v.0, alter layer_order k (λ _. some (inr B.after)) v.1);
          gave = gave-above 15 9 cut_place right_edge M (given_view lf p n) n l v k H u x B.after q B.gave;
          alike = subst (Alike at (suc l) ks (map (bare_entry (suc l)) v.1))
              (sym (alter-map layer_order k (bare_value (suc l)) (λ _. some (inr B.after))
              (λ _. some (bare_value (suc l) (inr B.after))) v.1 refl))
              (alike-below at l ks (map (bare_entry (suc l)) v.1) k G (map (bare_entry l) x.1) (map (bare_entry l) B.after.1)
              (bare-found x q) B.alike);
          ends = λ y holder o W. ends-below y K links B.after (lookup-alter layer-order k (λ _. some (inr B.after)) its-order)
              (B.ends y) W;
          fewer =
              subst (λ (us : List (AnyTree Pointer)). Shorter n us
              (trees_up K (suc l) (v.0, alter layer_order k (λ _. some (inr B.after)) v.1) ks))
              (sym (ap (λ (o : Option (LayeredValue (suc l))). from_option [] (trees_at K (suc l) ks) o ++ v.0 ∷ []) q))
              (subst (Shorter n (trees_up K l x (path_down K ks) ++ v.0 ∷ []))
              (sym (ap (λ (o : Option (LayeredValue (suc l))). from_option [] (trees_at K (suc l) ks) o ++ v.0 ∷ [])
              (lookup-alter layer-order k (λ _. some (inr B.after)) its-order ∙ refl)))
              (shorter-under n v.0 B.fewer));
        }

  -- a layer whose root is an empty leaf is that leaf
  seen : (k : ℕ) → node_in M k ≡ node_view m.nodes k
  seen = seen-node m whole

  nothing-mapped : {A B : Type 0} (f : A → B) (xs : List A) → [] ≡ map f xs → xs ≡ []
  nothing-mapped f [] e = refl
  nothing-mapped f (x ∷ xs) e = let z : ◌≡◌ {A = ℕ} 0 1 = cc in absurd (omega arith)

  no-entries : (r : ℕ) → T (empty_leaf m.nodes r) → view_all (entries_at m.nodes r) ≡ []
  unfolding empty_leaf entries_at
  no-entries r t =
      let z : word_at m.nodes r 1 % 16 ≡ 0 = eqb→eq (word_at m.nodes r 1 % 16) 0 (and_right (eqb (word_at m.nodes r 0) 1) _ t) in
      rw z refl

  a-leaf : (r : ℕ) → T (empty_leaf m.nodes r) → kind_at m.nodes r ≡ 1
  unfolding empty_leaf
  a-leaf r t =
      let z : node_start r + 0 ≡ node_start r = omega arith in
      sym (ap (λ (i : ℕ). get_or m.nodes i 0) z) ∙ eqb→eq (word_at m.nodes r 0) 1 (and_left (eqb (word_at m.nodes r 0) 1) _ t)

  -- what an empty layer says
  layer-empty : (holder root links : ℕ) → T (empty_layer m.nodes K holder root links) → T (empty_leaf m.nodes root)
  unfolding empty_layer
  layer-empty holder root links t = and_left (empty_leaf m.nodes root) _ (and_right (ltb 0 links) _ t)

  is-hollow : (l : ℕ) (x : Layered l) → HoldsLayer 15 right_edge l M x → T (empty_leaf m.nodes (layer_root l x))
      → x ≡ hollow l (layer_root l x)
  is-hollow l ((zero, (r, es)), ds) H t =
      let e : es ≡ [] = sym (leaf-words m.nodes M seen r es H.0.1).1 ∙ no-entries r t in
      let d : ds ≡ [] = nothing-mapped (pointer_entry l) ds (sym e ∙ H.1) in
      λ i. ((zero, (r, e i)), d i)
  is-hollow l ((suc h, t), ds) H y =
      let z : ◌≡◌ {A = ℕ} 0 1 = cc (H.0.1.0, seen t.0, leaf-view m.nodes t.0 (a-leaf t.0 y)) in absurd (omega arith)

  -- the layer in which the way ends
  missing-given : (l : ℕ) (v : Layered (suc l)) (ks : List ℕ) → BelowLinks ks K → HoldsLayer 15 right_edge (suc l) M v
      → RightLayer at (suc l) ks (map (bare_entry (suc l)) v.1)
      → ((j : ℕ) → layer_reaches (suc l) v j + times_in (free_numbers 0 M) j ≤ 1)
      → (lf p : ℕ) (x : Layered l) → lookup layer_order (layer_key ks K) v.1 ≡ some (inr x)
      → Entered m K (layer_root (suc l) v) (length ks) lf p (link (layer_root l x))
      → lookup layer_order (layer_key (path_down K ks) K) x.1 ≡ none
      → T (to_give_back m.nodes K (Missing (number_word m.nodes lf p) (layer_root l x) (length (path_down K ks))))
      → EndsAt (Missing (number_word m.nodes lf p) (layer_root l x) (length (path_down K ks)))
      (λ holder root links. (lf p : ℕ) × (holder ≡ number_word m.nodes lf p) × (1 ≤ links)
      × (p ≡ link_place m.nodes K lf links)
      × Goes (suc l) v ks lf p root (links - 1))
  missing-given l v ks uk H G u lf p x q E none-there t =
      let F = fit l v ks uk H G u x q in
      let hole = is-hollow l x F.has (layer-empty _ _ _ t) in
      let deep : length (path_down K ks) ≡ suc (length ks) = down-length K ks (length ks) refl in
      let up : length (path_down K ks) - 1 ≡ length ks = omega arith in (
        lf,
        p,
        refl,
        omega arith,
        E.place_is ∙ ap (λ (i : ℕ). place_equal (ikey_at K (8 * i)) (class_at K (8 * i)) (entries_at m.nodes lf)) (sym up),
        subst (Goes (suc l) v ks lf p (layer_root l x)) (sym up)
            (here l v ks uk H G u lf p (layer_root l x) (q ∙ ap (λ (y : Layered l). some (inr y)) hole) E),
      )

  -- from the link above a layer down: where the way ends at an empty layer, that layer goes
  pub way-given : (l : ℕ) (v : Layered (suc l)) (ks : List ℕ) → BelowLinks ks K → HoldsLayer 15 right_edge (suc l) M v
      → RightLayer at (suc l) ks (map (bare_entry (suc l)) v.1)
      → ((j : ℕ) → layer_reaches (suc l) v j + times_in (free_numbers 0 M) j ≤ 1)
      → (lf p : ℕ) (x : Layered l) → lookup layer_order (layer_key ks K) v.1 ≡ some (inr x)
      → Entered m K (layer_root (suc l) v) (length ks) lf p (link (layer_root l x))
      → {o : Met} → Way m K l x (path_down K ks) (number_word m.nodes lf p) o → T (to_give_back m.nodes K o)
      → EndsAt o (λ holder root links. (lf p : ℕ) × (holder ≡ number_word m.nodes lf p) × (1 ≤ links)
      × (p ≡ link_place m.nodes K lf links)
      × Goes (suc l) v ks lf p root (links - 1))
  way-given zero v ks uk H G u lf p x q E (missing _ _ _ _ none-there) t =
      missing-given zero v ks uk H G u lf p x q E none-there t
  way-given zero v ks uk H G u lf p x q E (way.stored _ _ _ _ _ _ _ _ _ _ _) t = absurd t
  way-given zero v ks uk H G u lf p x q E (conflict _ _ _ _ _ _ _ _ _ _ _) t = absurd t
  way-given (suc l) v ks uk H G u lf p x q E (missing _ _ _ _ none-there) t =
      missing-given (suc l) v ks uk H G u lf p x q E none-there t
  way-given (suc l) v ks uk H G u lf p x q E (way.stored _ _ _ _ _ _ _ _ _ _ _) t = absurd t
  way-given (suc l) v ks uk H G u lf p x q E (conflict _ _ _ _ _ _ _ _ _ _ _) t = absurd t
  way-given (suc l) v ks uk H G u lf p x q E (below _ _ _ _ lf' p' y o q' E' rest) t =
      let F = fit (suc l) v ks uk H G u x q in
      on o (way-given l x (path_down K ks) F.under F.has F.right F.once lf' p' y q' E' rest t)
    where
      on : (o : Met)
          → EndsAt o (λ holder root links. (lf p : ℕ) × (holder ≡ number_word m.nodes lf p) × (1 ≤ links)
          × (p ≡ link_place m.nodes K lf links)
          × Goes (suc l) x (path_down K ks) lf p root (links - 1))
          → EndsAt o (λ holder root links. (lf p : ℕ) × (holder ≡ number_word m.nodes lf p) × (1 ≤ links)
          × (p ≡ link_place m.nodes K lf links)
          × Goes (suc (suc l)) v ks lf p root (links - 1))
      on (Stored _ _ _) e = e
      on (Conflict _ _ _ _) e = e
      on (Missing holder root links) (lf, p, a, b, c, g) = (lf, p, a, b, c, further (suc l) v ks uk H G u lf p root (links - 1) x q g)
