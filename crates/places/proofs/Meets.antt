-- Where a key is, or where it would go, in the layers of a tree: the way that `meet` takes over the words of lent memory. Assumes
-- nothing.
use mathlib.Core.Path.{◌≡◌, refl, sym, ap, ◌∙◌, subst}
use mathlib.Core.Logic.{inl, inr, ◌≢◌}
use mathlib.Core.Bool.{Bool, true, false, cond, ◌&&◌}
use mathlib.Core.List.{List, map}
use mathlib.Core.Option.{Option, none, some}
use Prim.Native.Nat.{ℕ, zero, suc, ◌+◌, ◌*◌, ◌-◌, ◌≤◌, ◌<◌, Ordering}
use native.Mathlib.Omega.{arith}
use lib.Dec.{eqb, ltb, compare_is_eq}
use lib.ListN.{length, get_or}
use borrow.Author.Tests.{eqb-true, ltb-true, eq-eqb}
use Rattle.order.specs.Bytes.{bytewise}
use Rattle.order.specs.Layer.{ikey_at, class_at}
use Rattle.order.proofs.Bytes.{bytewise-exact, bytewise-same}
use Rattle.leaf_entries.specs.declared.Entry.{Entry}
use Rattle.leaf.specs.Leaf as leaves
use Rattle.leaf.specs.Search.{place_equal}
use Rattle.leaf.proofs.Orders.{is-equal}
use Rattle.arena.specs.Parts.{part}
use Rattle.arena.specs.Layout.{key_start, mark_at, key_at}
use Rattle.arena.specs.Memory.{Memory}
use Rattle.forest.specs.Nodes.{entries_at}
use Rattle.model.specs.Down.{leaf_in}
use Rattle.model.specs.Meet.{has_key, number_word, meet_entry, meet_leaf, meet}
use Rattle.model.specs.declared.Met.{Met}
use Rattle.model.specs.declared.Met.TheVariants.{Stored, Conflict, Missing}
use Rattle.trees.specs.Nodes.{IkeyClass, layer_order, NodeList}
use Rattle.trees.specs.Paths.{rest_below, BelowLinks, layer_key, path_down, key_below}
use Rattle.trees.specs.Entries.{RightLayer, FitsLayers, RightValue, cell_uses}
use Rattle.trees.specs.Layers.{Pointer, cell, link, LayeredValue, Layered, layered_cell, bare_value, bare_entry, layer_root, pointer_of}
use Rattle.trees.specs.Layers.{value_reaches, layer_reaches, HoldsValue, HoldsLayer}
use Rattle.trees.proofs.Nodes.{layer-order, one_at-same}
use Rattle.trees.proofs.Paths.{raised_ikey-lt, bytes_rest, layer_key-at, down-length}
use Rattle.trees.proofs.EntriesPut.{below-one-more, both-longer}
use Rattle.order.specs.Map.{lookup}
use Rattle.order.specs.Options.{map_option, worth}
use Rattle.order.proofs.Lookup.{same_some}
use Rattle.order.proofs.Changes.{worth-le, lookup-map, lookup-all}
use Rattle.order.specs.Lists.{total}
use Rattle.views.specs.Views.{nodes_view}
use Rattle.views.proofs.Nodes.{nodes_in}
use Rattle.views.proofs.LayerViews.{right_edge}
use Rattle.places.proofs.Entries.{view, seen-cell, seen-link, place-there}
use Rattle.places.proofs.Looks.{looks, entry-view}

-- ---- a cell and a key

-- a cell whose key stands whole in memory
pub record Whole (cells bytes : List ℕ) (c : ℕ) : Type 0 where
  pub marked : 1 ≤ mark_at cells c
  pub long : length (key_at cells bytes c) ≡ mark_at cells c - 1

module _ (cells bytes : List ℕ) (c : ℕ) (K : List ℕ) where
  pub has-key : has_key cells bytes c K ≡ true → key_at cells bytes c ≡ K
  unfolding has_key
  has-key =
      go (eqb (mark_at cells c) (length K + 1)) (eqb-true (mark_at cells c) (length K + 1))
      (bytewise (part bytes (key_start c) (length K)) K) (bytewise-exact (part bytes (key_start c) (length K)) K)
    where
      go : (b : Bool) → (b ≡ true → mark_at cells c ≡ length K + 1) → (o : Ordering)
          → (o ≡ Ordering.eq → part bytes (key_start c) (length K) ≡ K)
          → b && compare_is_eq o ≡ true → key_at cells bytes c ≡ K
      go true f o g h =
          let e : mark_at cells c ≡ length K + 1 = f refl in
          let z : mark_at cells c - 1 ≡ length K = omega arith in
          ap (part bytes (key_start c)) z ∙ g (is-equal h)
      go false f o g h = let z : ◌≡◌ {A = ℕ} 0 1 = cc in absurd (omega arith)

  pub key_has : Whole cells bytes c → key_at cells bytes c ≡ K → has_key cells bytes c K ≡ true
  unfolding has_key
  key_has w e =
      let n : length K ≡ mark_at cells c - 1 = ap length (sym e) ∙ w.long in
      let p : part bytes (key_start c) (length K) ≡ K = ap (part bytes (key_start c)) n ∙ e in
      rw (eq-eqb (mark_at cells c) (length K + 1) (omega (arith, w.marked)), p, bytewise-same K)

-- ---- where the search of one layer ends

module _ (m : Memory) (K : List ℕ) where
  -- position p of the leaf, in the layer of this root below so many links, has the key's ikey and class, and x
  pub record Entered (root links leaf p : ℕ) (x : Pointer) : Type 0 where
    pub leaf-is : leaf ≡ leaf_in m.nodes root (ikey_at K (8 * links))
    pub place_is : p ≡ place_equal (ikey_at K (8 * links)) (class_at K (8 * links)) (entries_at m.nodes leaf)
    pub inside : p < length (entries_at m.nodes leaf)
    pub keyed : (view (get_or (entries_at m.nodes leaf) p leaves.none)).0 ≡ key_below K links
    pub there : (view (get_or (entries_at m.nodes leaf) p leaves.none)).1 ≡ x

  -- The way from a layer down, below the links of these ikeys: `holder` is the word of memory that holds its root's number. It ends
  -- where no entry has the key's ikey and class, at the key's own cell, or at a cell with another key; or it goes on below a link.
  pub data Way : (l : ℕ) → Layered l → List ℕ → ℕ → Met → Type 0 where
    missing : (l : ℕ) (v : Layered l) (ks : List ℕ) (holder : ℕ) → lookup layer_order (layer_key ks K) v.1 ≡ none
        → Way l v ks holder (Missing holder (layer_root l v) (length ks))
    stored : (l : ℕ) (v : Layered l) (ks : List ℕ) (holder leaf p c : ℕ) → lookup layer_order (layer_key ks K) v.1 ≡ some (layered_cell l c)
        → Entered (layer_root l v) (length ks) leaf p (cell c) → Whole m.cells m.bytes c → key_at m.cells m.bytes c ≡ K
        → Way l v ks holder (Stored leaf p c)
    conflict : (l : ℕ) (v : Layered l) (ks : List ℕ) (holder leaf p c : ℕ)
        → lookup layer_order (layer_key ks K) v.1 ≡ some (layered_cell l c)
        → Entered (layer_root l v) (length ks) leaf p (cell c) → Whole m.cells m.bytes c → key_at m.cells m.bytes c ≢ K
        → Way l v ks holder (Conflict leaf p c (length ks))
    below : (l : ℕ) (v : Layered (suc l)) (ks : List ℕ) (holder leaf p : ℕ) (w : Layered l) (o : Met)
        → lookup layer_order (layer_key ks K) v.1 ≡ some (inr w)
        → Entered (layer_root (suc l) v) (length ks) leaf p (link (layer_root l w))
        → Way l w (path_down K ks) (number_word m.nodes leaf p) o → Way (suc l) v ks holder o

  module _ (whole : length m.nodes ≡ 2 + nodes_in m * 47) (few : nodes_in m ≤ 255) where
    abbrev M : NodeList Pointer
    M = nodes_view m

    key-small : (ks : List ℕ) → BelowLinks ks K → (layer_key ks K).0 < right_edge
    unfolding layer_key
    key-small ks u = raised_ikey-lt (bytes_rest ks K u)

    -- one layer: nothing there, or an entry
    in-layer : (P : Met → Type 0) (go_on : ℕ → ℕ → ℕ → Met) (l : ℕ) (v : Layered l) (ks : List ℕ) (holder : ℕ) → BelowLinks ks K
        → HoldsLayer 15 right_edge l M v → ((j : ℕ) → layer_reaches l v j ≤ 1)
        → (lookup layer_order (layer_key ks K) v.1 ≡ none → P (Missing holder (layer_root l v) (length ks)))
        → ((x : LayeredValue l) (leaf p : ℕ) → lookup layer_order (layer_key ks K) v.1 ≡ some x
        → Entered (layer_root l v) (length ks) leaf p (pointer_of l x)
        → P (meet_entry go_on m K (length ks) leaf p (get_or (entries_at m.nodes leaf) p leaves.none)))
        → P (meet_leaf go_on m K (length ks) holder (layer_root l v) (leaf_in m.nodes (layer_root l v) (ikey_at K (8 * length ks))))
    unfolding meet_leaf
    in-layer P go_on l v ks holder uk H u absent present =
        go (ltb p (length es)) (ltb-true p (length es)) (lookup layer_order (key_below K n) v.1) refl
        (entry-view m whole few l v i c H (λ j. omega (arith, u j)) small)
      where
        n : ℕ
        n = length ks

        i : ℕ
        i = ikey_at K (8 * n)

        c : ℕ
        c = class_at K (8 * n)

        lf : ℕ
        lf = leaf_in m.nodes (layer_root l v) i

        es : List Entry
        es = entries_at m.nodes lf

        p : ℕ
        p = place_equal i c es

        key-is : layer_key ks K ≡ key_below K n
        key-is = layer_key-at ks K n refl

        small : suc i < right_edge
        small = subst (λ (k : IkeyClass). k.0 < right_edge) key-is (key-small ks uk)

        go : (b : Bool) → (b ≡ true → p < length es) → (o : Option (LayeredValue l)) → lookup layer_order (key_below K n) v.1 ≡ o
            → cond b (some (view (get_or es p leaves.none)).1) none ≡ map_option (pointer_of l) (lookup layer_order (key_below K n) v.1)
            → P (cond b (meet_entry go_on m K n lf p (get_or es p leaves.none)) (Missing holder (layer_root l v) n))
        go true f none q e = let z : ◌≡◌ {A = ℕ} 0 1 = cc (ap (map_option (pointer_of l)) q) in absurd (omega arith)
        go true f (some x) q e =
            let there : (view (get_or es p leaves.none)).1 ≡ pointer_of l x = same_some (e ∙ ap (map_option (pointer_of l)) q) in
            present x lf p (ap (λ (k : IkeyClass). lookup layer_order k v.1) key-is ∙ q)
            (record {
              leaf-is = refl;
              place_is = refl;
              inside = f refl;
              keyed = place-there i c es (looks m whole few l v i H (λ j. omega (arith, u j))).fine (f refl);
              there = there;
            })
        go false f none q e = absent (ap (λ (k : IkeyClass). lookup layer_order k v.1) key-is ∙ q)
        go false f (some x) q e = let z : ◌≡◌ {A = ℕ} 0 1 = cc (ap (map_option (pointer_of l)) q) in absurd (omega arith)

    -- at a cell: the key itself, or another
    at-cell : (go_on : ℕ → ℕ → ℕ → Met) (l : ℕ) (v : Layered l) (ks : List ℕ) (holder leaf p c : ℕ)
        → lookup layer_order (layer_key ks K) v.1 ≡ some (layered_cell l c)
        → Entered (layer_root l v) (length ks) leaf p (cell c) → Whole m.cells m.bytes c
        → Way l v ks holder (meet_entry go_on m K (length ks) leaf p (get_or (entries_at m.nodes leaf) p leaves.none))
    unfolding meet_entry
    at-cell go_on l v ks holder lf p c q E w =
        let (other, at) = seen-cell (get_or (entries_at m.nodes lf) p leaves.none) c E.there in
        rw (other, at) (go (has_key m.cells m.bytes c K) refl)
      where
        go : (b : Bool) → has_key m.cells m.bytes c K ≡ b → Way l v ks holder (cond b (Stored lf p c) (Conflict lf p c (length ks)))
        go true h = stored l v ks holder lf p c q E w (has-key m.cells m.bytes c K h)
        go false h =
            conflict l v ks holder lf p c q E w
            (λ e. let z : ◌≡◌ {A = ℕ} 0 1 = cc (key_has m.cells m.bytes c K w e) in omega arith)

    module _ (at : ℕ → List ℕ × ℕ) where
      -- every cell of the layer is whole
      abbrev pub Wholes : (l : ℕ) → Layered l → Type 0
      Wholes l v = (j : ℕ) → 0 < total (λ e. cell_uses l e.1 j) (map (bare_entry l) v.1) → Whole m.cells m.bytes j

      -- what an entry uses, the layer uses
      used : (l : ℕ) (v : Layered l) (k : IkeyClass) (x : LayeredValue l) (j : ℕ) → lookup layer_order k v.1 ≡ some x
          → cell_uses l (bare_value l x) j ≤ total (λ e. cell_uses l e.1 j) (map (bare_entry l) v.1)
      used l v k x j q =
          let e : lookup layer_order k (map (bare_entry l) v.1) ≡ some (bare_value l x) =
          lookup-map layer_order k (bare_value l) v.1 ∙ ap (map_option (bare_value l)) q in
          omega (arith, worth-le layer_order k (λ y. cell_uses l y j) (map (bare_entry l) v.1), ap (worth (λ y. cell_uses l y j)) e)

      at-link : (l : ℕ) (v : Layered (suc l)) (ks : List ℕ) (holder lf p : ℕ) (w : Layered l)
          → lookup layer_order (layer_key ks K) v.1 ≡ some (inr w)
          → Entered (layer_root (suc l) v) (length ks) lf p (link (layer_root l w))
          → Way l w (path_down K ks) (number_word m.nodes lf p)
          (meet l m K (length (path_down K ks)) (number_word m.nodes lf p) (layer_root l w))
          → Way (suc l) v ks holder (meet_entry (meet l m K) m K (length ks) lf p (get_or (entries_at m.nodes lf) p leaves.none))
      unfolding meet_entry
      at-link l v ks holder lf p w q E rest_below =
          let (ten, at) = seen-link (get_or (entries_at m.nodes lf) p leaves.none) (layer_root l w) E.there in
          rw (ten, at)
          (below l v ks holder lf p w _ q E
          (subst (λ (n : ℕ). Way l w (path_down K ks) (number_word m.nodes lf p)
          (meet l m K n (number_word m.nodes lf p) (layer_root l w))) (down-length K ks (length ks) refl) rest_below))

      pub meets : (l : ℕ) (v : Layered l) (ks : List ℕ) (holder : ℕ) → BelowLinks ks K → HoldsLayer 15 right_edge l M v
          → RightLayer at l ks (map (bare_entry l) v.1)
          → ((j : ℕ) → layer_reaches l v j ≤ 1) → Wholes l v → Way l v ks holder (meet l m K (length ks) holder (layer_root l v))
      unfolding meet
      meets zero v ks holder uk H G u w =
          in-layer (Way zero v ks holder) (λ links holder root. Missing holder root links) zero v ks holder uk H u
          (missing zero v ks holder)
          (λ c lf p q E. at-cell (λ links holder root. Missing holder root links) zero v ks holder lf p c q E
          (w c (omega (arith, used zero v (layer_key ks K) c c q, one_at-same c))))
      meets (suc l) v ks holder uk H G u w =
          in-layer (Way (suc l) v ks holder) (meet l m K) (suc l) v ks holder uk H u (missing (suc l) v ks holder) (go (meets l))
        where
          k : IkeyClass
          k = layer_key ks K

          go : ((v : Layered l) (ks : List ℕ) (holder : ℕ) → BelowLinks ks K → HoldsLayer 15 right_edge l M v
              → RightLayer at l ks (map (bare_entry l) v.1)
              → ((j : ℕ) → layer_reaches l v j ≤ 1) → Wholes l v → Way l v ks holder (meet l m K (length ks) holder (layer_root l v)))
              → (x : LayeredValue (suc l)) (lf p : ℕ) → lookup layer_order k v.1 ≡ some x
              → Entered (layer_root (suc l) v) (length ks) lf p (pointer_of (suc l) x)
              → Way (suc l) v ks holder (meet_entry (meet l m K) m K (length ks) lf p (get_or (entries_at m.nodes lf) p leaves.none))
          go ih (inl c) lf p q E =
              at-cell (meet l m K) (suc l) v ks holder lf p c q E (w c (omega (arith, used (suc l) v k (inl c) c q, one_at-same c)))
          go ih (inr x) lf p q E =
              let g = lookup-all layer_order k layer-order (RightValue at (suc l) ks) G.1 (bare_value (suc l) (inr x))
              (lookup-map layer_order k (bare_value (suc l)) v.1 ∙ ap (map_option (bare_value (suc l))) q) in
              let h = lookup-all layer_order k layer-order (λ k v. HoldsValue 15 right_edge M (suc l) v) H.2 (inr x) q in
              at-link l v ks holder lf p x q E
              (ih x (path_down K ks) (number_word m.nodes lf p) (below-one-more ks k.0 K uk (ap (λ (y : ℕ). (k.0, y)) g.0)) h
              (g.1, g.2)
              (λ j. omega (
                arith,
                u j,
                worth-le layer_order k (λ x. value_reaches (suc l) x j) v.1,
                ap (worth (λ x. value_reaches (suc l) x j)) q,
              ))
              (λ j z. w j (omega (arith, used (suc l) v k (inr x) j q))))

      -- two keys in conflict are both longer than this layer
      pub conflict-long : (l : ℕ) (v : Layered l) (ks : List ℕ) (c : ℕ) → FitsLayers at l ks K
          → RightLayer at l ks (map (bare_entry l) v.1)
          → lookup layer_order (layer_key ks K) v.1 ≡ some (layered_cell l c) → (at c).0 ≢ K → layer_key ks K ≡ ((layer_key ks K).0, 9)
      conflict-long l v ks c fit G q ne =
          let (other, e) = filed l (lookup-all layer_order (layer_key ks K) layer-order (RightValue at l ks) G.1
          (bare_value l (layered_cell l c))
          (lookup-map layer_order (layer_key ks K) (bare_value l) v.1 ∙ ap (map_option (bare_value l)) q)) in
          both-longer at l ks K (at c).0 fit other (λ z. ne (sym z)) (sym e)
        where
          filed : (l : ℕ) → RightValue at l ks (layer_key ks K) (bare_value l (layered_cell l c))
              → FitsLayers at l ks (at c).0 × (layer_key ks (at c).0 ≡ layer_key ks K)
          filed zero g = g
          filed (suc l) g = g
