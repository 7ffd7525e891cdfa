-- Keys below a path: their order is that of what is left of them, and a layer lists in the order of whole keys. Assumes nothing.
use mathlib.Core.List.{List, [], ◌∷◌, ◌++◌, append-nil}
use mathlib.Core.Option.{Option, none, some}
use mathlib.Core.Path.{◌≡◌, refl, sym, ap, ◌∙◌}
use Prim.Native.Nat.compare
use Prim.Native.Nat.{ℕ, ◌≤◌, ◌<◌, compare, Ordering, suc, ◌+◌, ◌^◌, suc-le-suc, ◌*◌}
use native.Mathlib.Omega.{arith}
use lib.ListN.{length, drop, length-drop, length-append}
use lib.Seq.{drop-drop}
use Rattle.order.specs.Bytes.{Order, then, flip, Bytes, bytewise}
use Rattle.order.specs.Layer.{class_of, ikey_at, class_at}
use Rattle.order.specs.Lists.{flattened}
use Rattle.order.specs.Map.{All, a[], ◌a∷◌, Sorted, ◌s∷◌, alter, pick, put, s[]}
use Rattle.order.proofs.Compare.{compare_same, then-assoc}
use Rattle.order.proofs.Layer.{big_endian-lt, layer-law}
use Rattle.order.proofs.Map.{all_map, sorted-append, all_append, alter-left, alter-right}
use Rattle.trees.specs.Nodes.{IkeyClass, layer_order}
use Rattle.trees.specs.Paths.{raised_ikey, rest_below, BelowLinks, layer_key, path_down, key_below}
use Rattle.trees.proofs.Nodes.{layer-order}

pub raised_ikey-lt : {K : List ℕ} → Bytes K → raised_ikey K < suc (256 ^ 8)
unfolding raised_ikey
raised_ikey-lt b = suc-le-suc (big_endian-lt 8 b)

-- the bytewise order: by ikey, then by class, then by what follows
pub raised_ikey-law : {a b : List ℕ} → Bytes a → Bytes b
    → bytewise a b ≡ then (compare (raised_ikey a) (raised_ikey b))
    (then (compare (class_of (length a)) (class_of (length b))) (bytewise (drop 8 a) (drop 8 b)))
unfolding raised_ikey
raised_ikey-law a b = rw compare.suc-suc (layer-law 8 a b)

-- ---- a layer's map and the map that it lists

module _ {B F W : Type 0} {cmp : B → B → Ordering} (o : Order B cmp) (lk : B → IkeyClass) (Dom : B → Type 0)
    (compat : (a b : B) → Dom a → Dom b → layer_order (lk a) (lk b) ≡ Ordering.lt → cmp a b ≡ Ordering.lt)
    (L : IkeyClass × W → List (B × F)) where
  -- what entry e lists is of this layer, with the ikey and class of e
  abbrev pub OwnsListing : IkeyClass × W → Type 0
  OwnsListing e = All (λ x. Dom x.0 × (lk x.0 ≡ e.0)) (L e)

  pub below : (K : B) → Dom K → (e : IkeyClass × W) → layer_order e.0 (lk K) ≡ Ordering.lt → OwnsListing e
      → All (λ x. cmp x.0 K ≡ Ordering.lt) (L e)
  below K d e h a = all_map (λ x p. compat x.0 K p.0 d (rw p.1 h)) a

  pub above : (K : B) → Dom K → (e : IkeyClass × W) → layer_order (lk K) e.0 ≡ Ordering.lt → OwnsListing e
      → All (λ x. cmp K x.0 ≡ Ordering.lt) (L e)
  above K d e h a = all_map (λ x p. compat K x.0 d p.0 (rw p.1 h)) a

  pub aboves : (K : B) → Dom K → {es : List (IkeyClass × W)} → All (λ e. layer_order (lk K) e.0 ≡ Ordering.lt) es → All OwnsListing es
      → All (λ x. cmp K x.0 ≡ Ordering.lt) (flattened L es)
  aboves K d a[] a[] = a[]
  aboves K d (◌a∷◌ {x = e} h hs) (a a∷ bs) = all_append (above K d e h a) (aboves K d hs bs)

  module _ (K : B) (d : Dom K) (φ : Option F → Option F) (g : Option W → Option W)
      (new : flattened L (put (lk K) (g none) []) ≡ alter cmp K φ []) where
    -- the change of the entry of this ikey and class changes what it lists as the map
    abbrev pub StepRight : IkeyClass × W → Type 0
    StepRight e = lk K ≡ e.0 → flattened L (put (lk K) (g (some e.1)) []) ≡ alter cmp K φ (L e)

    flat-put : (v : Option W) (es : List (IkeyClass × W)) → flattened L (put (lk K) v es) ≡ flattened L (put (lk K) v []) ++ flattened L es
    flat-put none es = refl
    flat-put (some v) es = rw append-nil

    pub flatten-alter : {es : List (IkeyClass × W)} → Sorted layer_order es → All OwnsListing es → All StepRight es
        → flattened L (alter layer_order (lk K) g es) ≡ alter cmp K φ (flattened L es)
    unfolding alter
    flatten-alter s[] a[] a[] = new
    flatten-alter (◌s∷◌ {e = e} {es = es} h s) (a a∷ bs) (st a∷ sts) = go (layer_order (lk K) e.0) refl (flatten-alter s bs sts)
      where
        go : (c : Ordering) → layer_order (lk K) e.0 ≡ c → flattened L (alter layer_order (lk K) g es) ≡ alter cmp K φ (flattened L es)
            → flattened L (pick c (put (lk K) (g none) (e ∷ es)) (put (lk K) (g (some e.1)) es) (e ∷ alter layer_order (lk K) g es))
            ≡ alter cmp K φ (flattened L (e ∷ es))
        go Ordering.lt q ih = rw (flat-put (g none) (e ∷ es), new)
            (sym (alter-right o K φ [] (aboves K d (q a∷ all_map (λ x. layer-order.trans (lk K) e.0 x.0 q) h) (a a∷ bs))))
        go Ordering.eq q ih =
            let r : lk K ≡ e.0 = layer-order.exact (lk K) e.0 q in
            rw (flat-put (g (some e.1)) es, st r, alter-right o K φ (L e) (aboves K d (rw r h) bs))
        go Ordering.gt q ih = rw (ih, alter-left o K φ (flattened L es) (below K d e (layer-order.swap (lk K) e.0 ∙ ap flip q) a))

  -- the listing is sorted where each entry's is
  pub flatten-sorted : {es : List (IkeyClass × W)} → Sorted layer_order es → All OwnsListing es → All (λ e. Sorted cmp (L e)) es
      → Sorted cmp (flattened L es)
  flatten-sorted s[] a[] a[] = s[]
  flatten-sorted (◌s∷◌ {e = e} {es = es} h s) (a a∷ bs) (c a∷ cs) =
      sorted-append c (flatten-sorted s bs cs) (all_map (λ x p. aboves x.0 p.0 (all_map (λ y q. rw p.1 q) h) bs) a)

pub order_below : (ks : List ℕ) (a b : List ℕ) → BelowLinks ks a → BelowLinks ks b
    → bytewise a b ≡ bytewise (rest_below ks a) (rest_below ks b)
unfolding BelowLinks rest_below
order_below [] a b u v = refl
order_below (k ∷ ks) a b u v = rw (raised_ikey-law u.0 v.0, u.1, v.1, u.2, v.2, compare_same k)
    (order_below ks (drop 8 a) (drop 8 b) u.3 v.3)

pub class-le : (ks : List ℕ) (K : List ℕ) → (layer_key ks K).1 ≤ 9
unfolding layer_key
class-le ks K = omega arith

pub bytes_rest : (ks : List ℕ) (K : List ℕ) → BelowLinks ks K → Bytes (rest_below ks K)
unfolding BelowLinks rest_below
bytes_rest [] K u = u
bytes_rest (k ∷ ks) K u = bytes_rest ks (drop 8 K) u.3

pub layer-decides : (ks : List ℕ) (a b : List ℕ) → BelowLinks ks a → BelowLinks ks b
    → layer_order (layer_key ks a) (layer_key ks b) ≡ Ordering.lt → bytewise a b ≡ Ordering.lt
unfolding layer_key layer_order
layer-decides ks a b u v h = rw (order_below ks a b u v, raised_ikey-law (bytes_rest ks a u) (bytes_rest ks b v), ← then-assoc, h)

pub below-one-less : (ks : List ℕ) (k : ℕ) (K : List ℕ) → BelowLinks (ks ++ k ∷ []) K → BelowLinks ks K × (layer_key ks K ≡ (k, 9))
unfolding BelowLinks layer_key rest_below
below-one-less [] k K u = (u.0, λ i. (u.1 i, u.2 i))
below-one-less (j ∷ ks) k K u = let r = below-one-less ks k (drop 8 K) u.3 in ((u.0, u.1, u.2, r.0), r.1)

-- ---- the same by the offset in the key

pub rest-drop : (ks K : List ℕ) → rest_below ks K ≡ drop (8 * length ks) K
unfolding rest_below
rest-drop [] K = refl
rest-drop (k ∷ ks) K =
    let e : 8 + 8 * length ks ≡ 8 * suc (length ks) = omega arith in
    rest-drop ks (drop 8 K) ∙ drop-drop (8 * length ks) 8 K ∙ ap (λ (n : ℕ). drop n K) e

pub layer_key-at : (ks K : List ℕ) (links : ℕ) → length ks ≡ links → layer_key ks K ≡ key_below K links
unfolding layer_key raised_ikey ikey_at
layer_key-at ks K links e =
    let r : rest_below ks K ≡ drop (8 * links) K = rest-drop ks K ∙ ap (λ (n : ℕ). drop (8 * n) K) e in
    let a : raised_ikey (rest_below ks K) ≡ suc (ikey_at K (8 * links)) = ap raised_ikey r in
    let b : class_of (length (rest_below ks K)) ≡ class_at K (8 * links) =
    ap (λ (J : List ℕ). class_of (length J)) r ∙ ap class_of (length-drop (8 * links) K) in
    λ i. (a i, b i)

pub down-length : (K ks : List ℕ) (links : ℕ) → length ks ≡ links → length (path_down K ks) ≡ suc links
down-length K ks links e = omega (arith, length-append ks ((layer_key ks K).0 ∷ []))
