-- Cells filed under keys: an entry's cell is rightly filed exactly where the view says that its key is the entry's; and the same
-- listing on both sides. Assumes nothing.
use mathlib.Core.Path.{◌≡◌, refl, sym, ap, ap₂, ◌∙◌, subst}
use mathlib.Core.Logic.{inl, inr}
use mathlib.Core.List.{List, [], ◌∷◌, ◌++◌, map}
use mathlib.Core.Option.{none, some}
use Prim.Native.Nat.{Ordering}
use Prim.Native.Nat.{ℕ, zero, suc, ◌+◌, ◌*◌, ◌-◌, ◌≤◌, ◌<◌}
use native.Mathlib.Omega.{arith}
use lib.Dec.{T}
use lib.ListN.{length, get_or, drop, length-take, length-append}
use Rattle.bank.proofs.Tests.{and_left, and_right, and_both}
use Rattle.order.specs.Bytes.{Bytes}
use Rattle.order.specs.Map.{All, a[], ◌a∷◌, Sorted, s[], ◌s∷◌}
use Rattle.order.specs.Lists.{total, flattened}
use Rattle.leaf.proofs.Lists.{map-append}
use Rattle.arena.specs.Parts.{part}
use Rattle.arena.specs.Layout.{key_start, mark_at, key_at, frame_at}
use Rattle.arena.specs.Memory.{Memory}
use Rattle.forest.specs.Cells.{cell_right, filed}
use Rattle.forest.specs.Trees.{Key, entries_of, cell_no}
use Rattle.forest.specs.Layers.{Value, Layer, root_of, ref_of, reached_by, reached, HeldBy, Held, InEdgesBy, InEdges, FiledBy, Filed, listed_by}
use Rattle.forest.specs.Layers.{listed}
use Rattle.forest.proofs.Decides.{once-same}
use Rattle.forest.proofs.Inside.{filed-inside}
use Rattle.trees.specs.Nodes.{IkeyClass, layer_order}
use Rattle.trees.specs.Paths.{rest_below, layer_key}
use Rattle.trees.specs.Entries.{EntryValue, value_listing, entry_listing, FitsLayers, RightValue}
use Rattle.trees.specs.Cells.{cell_at}
use Rattle.trees.specs.Layers.{Pointer, LayeredValue, bare_value, bare_entry, pointer_of, pointer_entry}
use Rattle.trees.proofs.FindInTree.{tree-sorted}
use Rattle.views.specs.Views.{key_view, entry_view, cells_view, tree_view, value_view}
use Rattle.views.proofs.Entries.{LinkNine}
use Rattle.views.proofs.Keys.{bytes-part, keyed-view, view-keyed, rest-length}
use Rattle.views.proofs.Nodes.{nodes_in, cells_in, cell-at, used-cell-view, right-mark}
use Rattle.views.proofs.TreeViews.{list-view, wf-view, links-nine}
use Rattle.views.proofs.LayerViews.{right_edge, value_entry, pointers-view}

-- ---- lists of the same keys are sorted alike

abbrev Above : {A : Type 0} → IkeyClass → List (IkeyClass × A) → Type 0
Above k es = All (λ d. layer_order k d.0 ≡ Ordering.lt) es

module _ {A B : Type 0} (f : A → B) where
  abbrev beside : IkeyClass × A → IkeyClass × B
  beside e = (e.0, f e.1)

  all-beside : (k : IkeyClass) (es : List (IkeyClass × A)) → Above k (map beside es) → Above k es
  all-beside k [] ps = a[]
  all-beside k (e ∷ es) (p a∷ ps) = p a∷ (all-beside k es ps)

  beside-all : (k : IkeyClass) {es : List (IkeyClass × A)} → Above k es → Above k (map beside es)
  beside-all k a[] = a[]
  beside-all k (p a∷ ps) = p a∷ (beside-all k ps)

  sorted-beside : (es : List (IkeyClass × A)) → Sorted layer_order (map beside es) → Sorted layer_order es
  sorted-beside [] s = s[]
  sorted-beside (e ∷ es) (h s∷ s) = (all-beside e.0 es h) s∷ (sorted-beside es s)

  beside-sorted : {es : List (IkeyClass × A)} → Sorted layer_order es → Sorted layer_order (map beside es)
  beside-sorted s[] = s[]
  beside-sorted (◌s∷◌ {e = e} h s) = (beside-all e.0 h) s∷ (beside-sorted s)

all-unmapped : {A B : Type 0} {P : B → Type 0} (f : A → B) (xs : List A) → All P (map f xs) → All (λ x. P (f x)) xs
all-unmapped f [] ps = a[]
all-unmapped f (x ∷ xs) (p a∷ ps) = p a∷ all-unmapped f xs ps

module _ (m : Memory) (cells_Whole : length m.cells ≡ cells_in m * 2) where
  abbrev entry_of : ℕ → List ℕ × ℕ
  entry_of c = (key_at m.cells m.bytes c, frame_at m.cells c)

  abbrev seen : ℕ → List ℕ × ℕ
  seen = cell_at (cells_view m)

  -- ---- one cell

  right-seen : (c : ℕ) → c < cells_in m → T (cell_right m.cells m.bytes c) → seen c ≡ entry_of c
  right-seen c h r =
      let marked = right-mark m.cells m.bytes c r in
      let e : get_or (cells_view m) c none ≡ some (entry_of c) =
      cell-at m c h ∙ used-cell-view m.cells m.bytes c (λ z. omega (arith, marked.0)) in
      rw e

  module _ (above : List ℕ) (k : Key) (c : ℕ) where
    abbrev FiledCell : Type 0
    FiledCell = T (filed m.cells m.bytes above k.0 k.1 c)

    pub filed-seen : FiledCell → seen c ≡ entry_of c
    unfolding filed
    filed-seen t =
        right-seen c (filed-inside m.cells m.bytes above k.0 k.1 c (cells_in m) cells_Whole t)
        (and_left (cell_right m.cells m.bytes c) _ t)

    key-short : T (cell_right m.cells m.bytes c) → length (key_at m.cells m.bytes c) ≤ 256
    unfolding part
    key-short r =
        omega (
          arith,
          (right-mark m.cells m.bytes c r).1,
          length-take (mark_at m.cells c - 1) (drop (key_start c) m.bytes),
        )

    good-cell : (l : ℕ) → length above + l ≡ 31 → Bytes m.bytes → FiledCell
        → FitsLayers seen l (map suc above) (seen c).0 × (layer_key (map suc above) (seen c).0 ≡ key_view k)
    unfolding filed
    good-cell l depth b t =
        let key = key_at m.cells m.bytes c in
        let short = key-short (and_left (cell_right m.cells m.bytes c) _ t) in
        let (u, q) = keyed-view above key k.0 k.1 (bytes-part m.bytes (key_start c) (mark_at m.cells c - 1) b)
        (and_right (cell_right m.cells m.bytes c) _ t) in
        let fits : length (rest_below (map suc above) key) ≤ 8 * suc l = omega (arith, rest-length above key) in
        subst (λ (x : List ℕ × ℕ). FitsLayers seen l (map suc above) x.0 × (layer_key (map suc above) x.0 ≡ key_view k))
        (sym (filed-seen t)) ((u, fits), q)

    cell-filed : (l : ℕ) → c < cells_in m → T (cell_right m.cells m.bytes c)
        → FitsLayers seen l (map suc above) (seen c).0 × (layer_key (map suc above) (seen c).0 ≡ key_view k) → FiledCell
    unfolding filed
    cell-filed l h r g =
        let (f, q) = subst (λ (x : List ℕ × ℕ). FitsLayers seen l (map suc above) x.0 × (layer_key (map suc above) x.0 ≡ key_view k))
        (right-seen c h r) g in
        and_both (cell_right m.cells m.bytes c) _ r (view-keyed above (key_at m.cells m.bytes c) k.0 k.1 f.0 q)

  -- ---- layers: from words to the view

  abbrev Good : (l : ℕ) → List ℕ → IkeyClass × EntryValue l → Type 0
  Good l ks e = RightValue seen l ks e.0 e.1

  abbrev bared_all : (l : ℕ) → List (Key × Value l) → List (IkeyClass × EntryValue l)
  bared_all l es = map (bare_entry l) (map (value_entry l) es)

  module _ (nodes-whole : length m.nodes ≡ 2 + nodes_in m * 47) (bytes : Bytes m.bytes) where
    abbrev ValueGood : ℕ → Type 0
    ValueGood l =
        (above : List ℕ) (k : Key) (v : Value l) → length above + l ≡ 31 → LinkNine (k, ref_of l v) → HeldBy m.nodes l v
        → InEdgesBy l v → FiledBy m.cells m.bytes l above k v
        → RightValue seen l (map suc above) (key_view k) (bare_value l (value_view l v))

    layer-sorted : (l : ℕ) (v : Layer l) → Held m.nodes l v → InEdges l v → Sorted layer_order (bared_all l v.1)
    layer-sorted l v held edges =
        let h = v.0.0 in
        let t = v.0.1 in
        let e : map entry_view (entries_of h t) ≡ map (pointer_entry l) (map (value_entry l) v.1) =
        ap (map entry_view) held.1 ∙ sym (pointers-view l v.1) in
        let s : Sorted layer_order (map entry_view (entries_of h t)) =
        subst (Sorted layer_order) (list-view h t)
        (tree-sorted Pointer 15 h 0 right_edge (tree_view h t) (wf-view m nodes-whole h 0 right_edge t held.0 edges.0)) in
        beside-sorted (bare_value l) (sorted-beside (pointer_of l) (map (value_entry l) v.1) (subst (Sorted layer_order) e s))

    goods-all : (l : ℕ) → ValueGood l → (above : List ℕ) → length above + l ≡ 31 → {es : List (Key × Value l)}
        → All (λ e. LinkNine (e.0, ref_of l e.1)) es → All (λ e. HeldBy m.nodes l e.1) es
        → All (λ e. InEdgesBy l e.1) es → All (λ e. FiledBy m.cells m.bytes l above e.0 e.1) es
        → All (Good l (map suc above)) (bared_all l es)
    goods-all l f above depth a[] a[] a[] a[] = a[]
    goods-all l f above depth (◌a∷◌ {x = e} n ns) (h a∷ hs) (b a∷ bs) (t a∷ ts) =
        (f above e.0 e.1 depth n h b t) a∷ (goods-all l f above depth ns hs bs ts)

    layer-goods : (l : ℕ) → ValueGood l → (above : List ℕ) (v : Layer l) → length above + l ≡ 31 → Held m.nodes l v → InEdges l v
        → Filed m.cells m.bytes l above v → All (Good l (map suc above)) (bared_all l v.1)
    layer-goods l f above v depth held edges files =
        let nine : All (λ e. LinkNine (e.0, ref_of l e.1)) v.1 =
        all-unmapped (λ e. (e.0, ref_of l e.1)) v.1
        (subst (All LinkNine) held.1 (links-nine m nodes-whole v.0.0 v.0.1 held.0)) in
        goods-all l f above depth nine held.2 edges.1 files

    value-good : (l : ℕ) → ValueGood l
    value-good zero above k c depth nine held edges files = good-cell above k c zero depth bytes files
    value-good (suc l) above k (inl c) depth nine held edges files = good-cell above k c (suc l) depth bytes files
    value-good (suc l) above k (inr v) depth nine held edges files = (
      nine (root_of v) refl,
      layer-sorted l v held edges,
      subst (λ (ks : List ℕ). All (Good l ks) (bared_all l v.1)) (map-append suc above (k.0 ∷ []))
          (layer-goods l (value-good l) (above ++ k.0 ∷ []) v (omega (arith, length-append above (k.0 ∷ []))) held edges files),
    )

    pub layer-good : (v : Layer 31) → Held m.nodes 31 v → InEdges 31 v → Filed m.cells m.bytes 31 [] v
        → Sorted layer_order (bared_all 31 v.1) × All (Good 31 []) (bared_all 31 v.1)
    layer-good v held edges files = (layer-sorted 31 v held edges, layer-goods 31 (value-good 31) [] v refl held edges files)

  -- ---- and back: where each cell that is reached is right

  abbrev RightCell : ℕ → Type 0
  RightCell c = (c < cells_in m) × T (cell_right m.cells m.bytes c)

  abbrev ValueFiles : ℕ → Type 0
  ValueFiles l =
      (above : List ℕ) (k : Key) (v : Value l) → ((j : ℕ) → 0 < reached_by l v (cell_no j) → RightCell j)
      → RightValue seen l (map suc above) (key_view k) (bare_value l (value_view l v)) → FiledBy m.cells m.bytes l above k v

  files-all : (l : ℕ) → ValueFiles l → (above : List ℕ) (es : List (Key × Value l))
      → ((j : ℕ) → 0 < total (λ e. reached_by l e.1 (cell_no j)) es → RightCell j)
      → All (Good l (map suc above)) (bared_all l es) → All (λ e. FiledBy m.cells m.bytes l above e.0 e.1) es
  files-all l f above [] right goods = a[]
  files-all l f above (e ∷ es) right (g a∷ gs) =
      f above e.0 e.1 (λ j h. right j (omega arith)) g a∷ files-all l f above es (λ j h. right j (omega arith)) gs

  value-files : (l : ℕ) → ValueFiles l
  value-files zero above k c right good =
      let (h, r) = right c (omega (arith, once-same (cell_no c))) in cell-filed above k c zero h r good
  value-files (suc l) above k (inl c) right good =
      let (h, r) = right c (omega (arith, once-same (cell_no c))) in cell-filed above k c (suc l) h r good
  value-files (suc l) above k (inr v) right good =
      files-all l (value-files l) (above ++ k.0 ∷ []) v.1 (λ j h. right j (omega arith))
      (subst (λ (ks : List ℕ). All (Good l ks) (bared_all l v.1)) (sym (map-append suc above (k.0 ∷ []))) good.2)

  pub good-layer : (v : Layer 31) → ((j : ℕ) → 0 < reached 31 v (cell_no j) → RightCell j)
      → All (Good 31 []) (bared_all 31 v.1) → Filed m.cells m.bytes 31 [] v
  good-layer v right goods = files-all 31 (value-files 31) [] v.1 (λ j h. right j (omega arith)) goods

  -- ---- the listing

  lists-seen : (l : ℕ) → ((above : List ℕ) (k : Key) (v : Value l) → FiledBy m.cells m.bytes l above k v
      → value_listing seen l (bare_value l (value_view l v)) ≡ listed_by m.cells m.bytes l v)
      → (above : List ℕ) {es : List (Key × Value l)} → All (λ e. FiledBy m.cells m.bytes l above e.0 e.1) es
      → flattened (entry_listing seen l) (bared_all l es) ≡ flattened (λ e. listed_by m.cells m.bytes l e.1) es
  lists-seen l f above a[] = refl
  lists-seen l f above (◌a∷◌ {x = e} p ps) = ap₂ ◌++◌ (f above e.0 e.1 p) (lists-seen l f above ps)

  value-seen : (l : ℕ) (above : List ℕ) (k : Key) (v : Value l) → FiledBy m.cells m.bytes l above k v
      → value_listing seen l (bare_value l (value_view l v)) ≡ listed_by m.cells m.bytes l v
  value-seen zero above k c files = ap (◌∷ []) (filed-seen above k c files)
  value-seen (suc l) above k (inl c) files = ap (◌∷ []) (filed-seen above k c files)
  value-seen (suc l) above k (inr v) files = lists-seen l (value-seen l) (above ++ k.0 ∷ []) files

  pub layer-listed : (l : ℕ) (above : List ℕ) (v : Layer l) → Filed m.cells m.bytes l above v
      → flattened (entry_listing seen l) (bared_all l v.1) ≡ listed m.cells m.bytes l v
  layer-listed l above v files = lists-seen l (value-seen l) above files
