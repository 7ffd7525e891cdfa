-- The walk of a layer decides whether memory has layers there, rightly filed, that reach nothing twice. Assumes nothing.
use mathlib.Core.Path.{◌≡◌, refl, sym, ap, ap₂, ◌∙◌, subst}
use mathlib.Core.Logic.{inl, inr}
use mathlib.Core.List.{List, [], ◌∷◌, ◌++◌, map}
use mathlib.Core.Option.{none}
use Prim.Native.Nat.{ℕ, zero, suc, ◌+◌, ◌*◌, ◌≤◌}
use native.Mathlib.Omega.{arith}
use lib.Dec.{T}
use lib.ListN.{length}
use Rattle.order.specs.Map.{All, a[], ◌a∷◌}
use Rattle.order.specs.Lists.{total}
use Rattle.arena.specs.Memory.{Memory}
use Rattle.forest.specs.Cells.{filed}
use Rattle.forest.specs.Trees.{Key, Ref, cell, link, entries_of, cell_no, nodes_of, once, leftmost, rightmost}
use Rattle.forest.specs.Layers.{Value, Layer, root_of, ref_of, reached_by, reached}
use Rattle.forest.specs.Layers.{HeldBy, Held, InEdgesBy, InEdges, FiledBy, Filed}
use Rattle.forest.specs.Walk.{Step, walk_ref, height_at, walk_node, walk_one, walk_layer}
use Rattle.forest.proofs.Decides.{Decides, Counting, in_words, see-decides, when-decides, never-decides, Each, sum_each}
use Rattle.forest.proofs.NodeWalk.{Found, found, node-decides}
use Rattle.forest.proofs.Heights.{height-found, not-high}

-- entries as their tree lists them: of what they have, the cell or the link
abbrev pub as_refs : (l : ℕ) → List (Key × Value l) → List (Key × Ref)
as_refs l es = map (λ e. (e.0, ref_of l e.1)) es

module _ (m : Memory) (N : ℕ) (whole : length m.nodes ≡ 2 + N * 47) (few : N ≤ 255) where
  -- ---- a tree of any height

  module _ (W : Key × Ref → Type 0) (count : (e : Key × Ref) → W e → ℕ → ℕ) (ref : Key → Ref → Step)
      (ref-decides : (k : Key) (r : Ref) → Decides (ref k r) (W (k, r)) (count (k, r))) (root : ℕ) where
    abbrev At : ℕ → Type 0
    At h = Found m.nodes W count h leftmost rightmost root

    abbrev found_at : (h : ℕ) → At h → ℕ → ℕ
    found_at h y i = found m.nodes W count h leftmost rightmost root y i

    decides : (h : ℕ) → Decides (walk_node ref m.nodes h leftmost rightmost root) (At h) (found_at h)
    decides h = node-decides m.nodes W count N whole ref ref-decides h leftmost rightmost root

    -- a tree that reaches no node twice has the height that the walk finds
    height : (h : ℕ) (y : At h) → ((i : ℕ) → nodes_of h y.0 i ≤ 1) → height_at m.nodes 255 root ≡ h
    height h (t, top, held, bounded, ws) once-each =
        let low = not-high m.nodes N whole h leftmost rightmost t held bounded once-each in
        ap (height_at m.nodes 255) (sym top) ∙ height-found m.nodes h 255 leftmost rightmost t (omega arith) held bounded

    tall-decides : Decides (walk_node ref m.nodes (height_at m.nodes 255 root) leftmost rightmost root) ((h : ℕ) × At h)
        (λ y. found_at y.0 y.1)
    tall-decides = record {
      sound = λ seen after e.
          let (y, a) = (decides (height_at m.nodes 255 root)).sound seen after e in
          ((height_at m.nodes 255 root, y), a);
      complete = λ seen y fits.
          let (after, e, a) = (decides y.0).complete seen y.1 fits in
          (after, rw (height y.0 y.1 (λ i. omega (arith, fits i))) e, a);
    }

  -- ---- entries with what they have

  -- what entry e has, below these links, where l more may follow
  abbrev Has : (l : ℕ) → List ℕ → Key × Ref → Type 0
  Has l above e =
      (v : Value l) × (ref_of l v ≡ e.1) × HeldBy m.nodes l v × InEdgesBy l v × FiledBy m.cells m.bytes l above e.0 v

  abbrev has_count : (l : ℕ) (above : List ℕ) (e : Key × Ref) → Has l above e → ℕ → ℕ
  has_count l above e y i = reached_by l y.0 i

  -- the layers from a root down
  abbrev pub Laid : (l : ℕ) → List ℕ → ℕ → Type 0
  Laid l above root =
      (v : Layer l) × (root_of v ≡ root) × Held m.nodes l v × InEdges l v × Filed m.cells m.bytes l above v

  abbrev pub laid : (l : ℕ) (above : List ℕ) (root : ℕ) → Laid l above root → ℕ → ℕ
  laid l above root y i = reached l y.0 i

  abbrev AllHeld : (l : ℕ) → List (Key × Value l) → Type 0
  AllHeld l es = All (λ e. HeldBy m.nodes l e.1) es

  abbrev AllInEdges : (l : ℕ) → List (Key × Value l) → Type 0
  AllInEdges l es = All (λ e. InEdgesBy l e.1) es

  abbrev AllFiled : (l : ℕ) → List ℕ → List (Key × Value l) → Type 0
  AllFiled l above es = All (λ e. FiledBy m.cells m.bytes l above e.0 e.1) es

  abbrev total_count : (l : ℕ) → List (Key × Value l) → ℕ → ℕ
  total_count l es i = total (λ e. reached_by l e.1 i) es

  -- all that the entries have, in one list
  gather : (l : ℕ) (above : List ℕ) (xs : List (Key × Ref)) (ws : Each (Has l above) xs)
      → Counting ((es : List (Key × Value l)) × (xs ≡ as_refs l es) × AllHeld l es × AllInEdges l es × AllFiled l above es)
      (λ y. total_count l y.0) (sum_each (has_count l above) xs ws)
  gather l above [] ws = (([], refl, a[], a[], a[]), λ i. refl)
  gather l above (x ∷ xs) ws =
      let (v, e, held, edges, filed) = ws.0 in
      let (y, q) = gather l above xs ws.1 in
      let (es, listed, helds, edged, fileds) = y in
      let both : x ∷ xs ≡ as_refs l ((x.0, v) ∷ es) = ap₂ (λ (r : Ref) (ys : List (Key × Ref)). (x.0, r) ∷ ys) (sym e) listed in
      (((x.0, v) ∷ es, both, held a∷ helds, edges a∷ edged, filed a∷ fileds), λ i. omega (arith, q i))

  scatter : (l : ℕ) (above : List ℕ) (es : List (Key × Value l)) → AllHeld l es → AllInEdges l es → AllFiled l above es
      → Counting (Each (Has l above) (as_refs l es)) (sum_each (has_count l above) (as_refs l es)) (total_count l es)
  scatter l above [] a[] a[] a[] = (tt, λ i. refl)
  scatter l above (e ∷ es) (h a∷ hs) (b a∷ bs) (f a∷ fs) =
      let (ws, q) = scatter l above es hs bs fs in
      (((e.1, refl, h, b, f), ws), λ i. omega (arith, q i))

  -- ---- one layer, where `ref` decides what its entries have

  one-decides : (l : ℕ) (above : List ℕ) (root : ℕ) (ref : Key → Ref → Step)
      → ((k : Key) (r : Ref) → Decides (ref k r) (Has l above (k, r)) (has_count l above (k, r)))
      → Decides (walk_node ref m.nodes (height_at m.nodes 255 root) leftmost rightmost root)
      (Laid l above root) (laid l above root)
  one-decides l above root ref ref-decides =
      in_words (tall-decides (Has l above) (has_count l above) ref ref-decides root)
      (λ (h, y).
      let (t, top, held, bounded, ws) = y in
      let (z, q) = gather l above (entries_of h t) ws in
      let (es, listed, helds, edged, fileds) = z in
      ((((h, t), es), top, (held, listed, helds), (bounded, edged), fileds), λ i. omega (arith, q i)))
      (λ (v, top, held, edges, filed).
      let Read : List (Key × Ref) → Type 0 = λ xs.
      Counting (Each (Has l above) xs) (sum_each (has_count l above) xs) (total_count l v.1) in
      let (ws, q) = subst Read (sym held.1) (scatter l above v.1 held.2 edges.1 filed) in
      ((v.0.0, (v.0.1, top, held.0, edges.0, ws)), λ i. omega (arith, q i)))

  -- ---- what one entry has

  abbrev InCell : List ℕ → Key → ℕ → Type 0
  InCell above k c = T (filed m.cells m.bytes above k.0 k.1 c)

  cell-decides : (above : List ℕ) (k : Key) (c : ℕ) (below : List ℕ → ℕ → Step)
      → Decides (walk_ref below m above k (cell c)) (InCell above k c × Unit {0}) (λ _. once (cell_no c))
  cell-decides above k c below = when-decides (filed m.cells m.bytes above k.0 k.1 c) (λ _. see-decides (cell_no c))

  same-cell : (above : List ℕ) (k : Key) (c d : ℕ) → d ≡ c → InCell above k d
      → Counting (InCell above k c × Unit {0}) (λ _. once (cell_no c)) (once (cell_no d))
  same-cell above k c d e f = ((subst (InCell above k) e f, tt), λ i. ap (λ (c : ℕ). once (cell_no c) i) (sym e))

  -- where no link may follow
  last-ref : (above : List ℕ) (k : Key) (r : Ref)
      → Decides (walk_ref (λ above root seen. none) m above k r) (Has zero above (k, r)) (has_count zero above (k, r))
  last-ref above k (cell c) =
      in_words (cell-decides above k c (λ above root seen. none)) (λ y. ((c, refl, tt, tt, y.0), λ i. refl))
      (λ (d, e, held, edges, f). same-cell above k c d (cc) f)
  last-ref above k (link root) = never-decides (λ (v, e, held, edges, f). let z : ◌≡◌ {A = ℕ} 0 1 = cc in omega arith)

  -- where `below` decides the layers that links lead to
  module _ (l : ℕ) (below : List ℕ → ℕ → Step)
      (below-decides : (above : List ℕ) (root : ℕ) → Decides (below above root) (Laid l above root) (laid l above root)) where
    cell-from : (above : List ℕ) (k : Key) (c : ℕ) (v : Value (suc l)) → ref_of (suc l) v ≡ cell c
        → FiledBy m.cells m.bytes (suc l) above k v
        → Counting (InCell above k c × Unit {0}) (λ _. once (cell_no c)) (reached_by (suc l) v)
    cell-from above k c (inl d) e f = same-cell above k c d (cc) f
    cell-from above k c (inr v) e f = let z : ◌≡◌ {A = ℕ} 0 1 = cc in absurd (omega arith)

    link-from : (above : List ℕ) (k : Key) (root : ℕ) (v : Value (suc l)) → ref_of (suc l) v ≡ link root
        → HeldBy m.nodes (suc l) v → InEdgesBy (suc l) v → FiledBy m.cells m.bytes (suc l) above k v
        → Counting (Laid l (above ++ k.0 ∷ []) root) (laid l (above ++ k.0 ∷ []) root) (reached_by (suc l) v)
    link-from above k root (inl d) e held edges f = let z : ◌≡◌ {A = ℕ} 0 1 = cc in absurd (omega arith)
    link-from above k root (inr v) e held edges f = ((v, cc, held, edges, f), λ i. refl)

    next-ref : (above : List ℕ) (k : Key) (r : Ref)
        → Decides (walk_ref below m above k r) (Has (suc l) above (k, r)) (has_count (suc l) above (k, r))
    next-ref above k (cell c) =
        in_words (cell-decides above k c below) (λ y. ((inl c, refl, tt, tt, y.0), λ i. refl))
        (λ (v, e, held, edges, f). cell-from above k c v e f)
    next-ref above k (link root) =
        in_words (below-decides (above ++ k.0 ∷ []) root)
        (λ (v, top, held, edges, f). ((inr v, ap link top, held, edges, f), λ i. refl))
        (λ (v, e, held, edges, f). link-from above k root v e held edges f)

  -- all layers, l links down at most
  pub layer-decides : (l : ℕ) (above : List ℕ) (root : ℕ) → Decides (walk_layer l m above root) (Laid l above root) (laid l above root)
  unfolding walk_layer walk_one
  layer-decides zero above root = one-decides zero above root (walk_ref (λ above root seen. none) m above) (last-ref above)
  layer-decides (suc l) above root =
      one-decides (suc l) above root (walk_ref (walk_layer l m) m above) (next-ref l (walk_layer l m) (layer-decides l) above)
