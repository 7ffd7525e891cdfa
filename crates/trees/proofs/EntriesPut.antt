-- A put among the entries changes what they list as the sorted map. Assumes nothing.
use mathlib.Core.List.{List, [], ◌∷◌, ◌++◌, append-nil}
use mathlib.Core.Logic.{◌≢◌, inl, inr}
use mathlib.Core.Option.{some}
use mathlib.Core.Path.{◌≡◌, refl, sym, ap, ◌∙◌, subst}
use Prim.Native.Nat.{ℕ, ◌≤◌, Ordering, zero, suc}
use native.Mathlib.Decide.{ℕ_discrete}
use native.Mathlib.Omega.{arith}
use lib.ListN.{length, drop, length-drop, drop_of_length-le}
use Rattle.order.specs.Bytes.{bytewise}
use Rattle.order.specs.Layer.{class_of}
use Rattle.order.specs.Lists.{flattened}
use Rattle.order.specs.Map.{All, a[], ◌a∷◌, Sorted, ◌s∷◌, alter, pick, s[]}
use Rattle.order.proofs.Bytes.{bytewise-order, bytes_drop, bytewise-exact, bytewise-same}
use Rattle.order.proofs.Compare.{compare_same}
use Rattle.order.proofs.Map.{all_map, all_append, all_split}
use Rattle.trees.specs.Nodes.{IkeyClass, layer_order}
use Rattle.trees.specs.Paths.{raised_ikey, rest_below, BelowLinks, layer_key}
use Rattle.trees.specs.Entries.{EntryValue, cell_value, from_option, cell_key, value_listing, entry_listing, FitsLayers, RightValue}
use Rattle.trees.specs.Entries.{OwnKeys, NewKey}
use Rattle.trees.specs.EntriesPut.{two_entries, conflict_entries, put_into_value}
use Rattle.trees.proofs.Nodes.{layer-order}
use Rattle.trees.proofs.Paths.{raised_ikey-law, flatten-alter, order_below, bytes_rest, layer-decides, below-one-less}

-- a class below 9 leaves nothing behind
class-end : (K : List ℕ) → class_of (length K) ≢ 9 → drop 8 K ≡ []
class-end K h = drop_of_length-le K {i = 8} (omega arith)

-- and eight bytes or less have one
pub short-class : (K : List ℕ) → length K ≤ 8 → class_of (length K) ≢ 9
short-class K h e = omega arith

module _ (ks : List ℕ) where
  -- two keys of one ikey and one class that is not longer are one
  pub same_key : (a b : List ℕ) → BelowLinks ks a → BelowLinks ks b → layer_key ks a ≡ layer_key ks b
      → class_of (length (rest_below ks a)) ≢ 9 → a ≡ b
  unfolding layer_key
  same_key a b u v e n =
      let p : raised_ikey (rest_below ks a) ≡ raised_ikey (rest_below ks b) = ap (λ (x : IkeyClass). x.0) e in
      let c : class_of (length (rest_below ks a)) ≡ class_of (length (rest_below ks b)) = ap (λ (x : IkeyClass). x.1) e in
      bytewise-exact a b (rw (
        order_below ks a b u v,
        raised_ikey-law (bytes_rest ks a u) (bytes_rest ks b v),
        p,
        c,
        compare_same,
        compare_same,
        class-end (rest_below ks a) n,
        class-end (rest_below ks b) (λ z. n (c ∙ z)),
      ) (bytewise-same []))

pub below-one-more : (ks : List ℕ) (k : ℕ) (K : List ℕ) → BelowLinks ks K → layer_key ks K ≡ (k, 9) → BelowLinks (ks ++ k ∷ []) K
unfolding BelowLinks layer_key rest_below
below-one-more [] k K u e = (u, ap (λ (x : IkeyClass). x.0) e, ap (λ (x : IkeyClass). x.1) e, bytes_drop 8 u)
below-one-more (j ∷ ks) k K u e = (u.0, u.1, u.2, below-one-more ks k (drop 8 K) u.3 e)

pub rest-snoc : (ks : List ℕ) (k : ℕ) (K : List ℕ) → rest_below (ks ++ k ∷ []) K ≡ drop 8 (rest_below ks K)
unfolding rest_below
rest-snoc [] k K = refl
rest-snoc (j ∷ ks) k K = rest-snoc ks k (drop 8 K)

module _ (cell : ℕ → List ℕ × ℕ) where
  listing-one : (l c : ℕ) → value_listing cell l (cell_value l c) ≡ cell c ∷ []
  listing-one zero c = refl
  listing-one (suc l) c = refl

  pub fits_more : (l : ℕ) (ks : List ℕ) (k : ℕ) (K : List ℕ) → FitsLayers cell (suc l) ks K → layer_key ks K ≡ (k, 9)
      → FitsLayers cell l (ks ++ k ∷ []) K
  fits_more l ks k K f e = (below-one-more ks k K f.0 e, rw (rest-snoc ks k K) (omega (arith, length-drop 8 (rest_below ks K), f.1)))

  pub both-longer : (l : ℕ) (ks : List ℕ) (a b : List ℕ) → FitsLayers cell l ks a → FitsLayers cell l ks b → a ≢ b
      → layer_key ks a ≡ layer_key ks b → layer_key ks a ≡ ((layer_key ks a).0, 9)
  unfolding layer_key
  both-longer l ks a b f g n e = go (ℕ_discrete (class_of (length (rest_below ks a))) 9)
    where
      go : Dec (class_of (length (rest_below ks a)) ≡ 9)
          → ◌≡◌ {A = IkeyClass} (raised_ikey (rest_below ks a), class_of (length (rest_below ks a))) (raised_ikey (rest_below ks a), 9)
      go (yes h) = ap (λ (x : ℕ). (raised_ikey (rest_below ks a), x)) h
      go (no h) = absurd (n (same_key ks a b f.0 g.0 e h))

  -- the layers for a conflict of the cells a and b
  module _ (a b : ℕ) where
    two_entries-list : (l : ℕ) (ks : List ℕ) → BelowLinks ks (cell_key cell a) → BelowLinks ks (cell_key cell b)
        → layer_key ks (cell_key cell a) ≢ layer_key ks (cell_key cell b)
        → flattened (entry_listing cell l) (two_entries cell a b l ks)
        ≡ alter bytewise (cell_key cell a) (λ o. some (cell a).1) (cell b ∷ [])
    unfolding alter
    two_entries-list l ks u v n =
        flatten-alter bytewise-order (layer_key ks) (BelowLinks ks) (layer-decides ks) (entry_listing cell l) (cell_key cell a) u
        (λ o. some (cell a).1) (λ o. some (cell_value l a)) (rw (append-nil, listing-one l a))
        (a[] s∷ s[]) (rw (listing-one l b) ((v, refl) a∷ a[]) a∷ a[]) ((λ e. absurd (n e)) a∷ a[])
        ∙ ap (alter bytewise (cell_key cell a) (λ o. some (cell a).1)) (append-nil _ ∙ listing-one l b)

    pub conflict_entries-list : (l : ℕ) (ks : List ℕ) → FitsLayers cell l ks (cell_key cell a) → FitsLayers cell l ks (cell_key cell b)
        → cell_key cell a ≢ cell_key cell b
        → flattened (entry_listing cell l) (conflict_entries cell a b l ks)
        ≡ alter bytewise (cell_key cell a) (λ o. some (cell a).1) (cell b ∷ [])
    conflict_entries-list zero ks f g n = two_entries-list zero ks f.0 g.0
        (λ e. n (same_key ks (cell_key cell a) (cell_key cell b) f.0 g.0 e
        (short-class (rest_below ks (cell_key cell a)) (omega (arith, f.1)))))
    conflict_entries-list (suc l) ks f g n = go (layer_order (layer_key ks (cell_key cell a)) (layer_key ks (cell_key cell b))) refl
        (conflict_entries-list l (ks ++ (layer_key ks (cell_key cell a)).0 ∷ []))
      where
        k : ℕ
        k = (layer_key ks (cell_key cell a)).0

        go : (c : Ordering) → layer_order (layer_key ks (cell_key cell a)) (layer_key ks (cell_key cell b)) ≡ c
            → (FitsLayers cell l (ks ++ k ∷ []) (cell_key cell a) → FitsLayers cell l (ks ++ k ∷ []) (cell_key cell b)
            → cell_key cell a ≢ cell_key cell b → flattened (entry_listing cell l) (conflict_entries cell a b l (ks ++ k ∷ []))
            ≡ alter bytewise (cell_key cell a) (λ o. some (cell a).1) (cell b ∷ []))
            → flattened (entry_listing cell (suc l)) (pick c (two_entries cell a b (suc l) ks)
            ((layer_key ks (cell_key cell a), inr (conflict_entries cell a b l (ks ++ k ∷ []))) ∷ []) (two_entries cell a b (suc l) ks))
            ≡ alter bytewise (cell_key cell a) (λ o. some (cell a).1) (cell b ∷ [])
        go Ordering.lt q ih = two_entries-list (suc l) ks f.0 g.0
            (λ e. let z : ◌≡◌ {A = ℕ} 0 1 = cc (layer-order.same (layer_key ks (cell_key cell a))) in omega arith)
        go Ordering.eq q ih =
            let e : layer_key ks (cell_key cell a) ≡ layer_key ks (cell_key cell b) = layer-order.exact _ _ q in
            let x : layer_key ks (cell_key cell a) ≡ (k, 9) = both-longer (suc l) ks (cell_key cell a) (cell_key cell b) f g n e in
            append-nil _ ∙ ih (fits_more l ks k (cell_key cell a) f x) (fits_more l ks k (cell_key cell b) g (sym e ∙ x)) n
        go Ordering.gt q ih = two_entries-list (suc l) ks f.0 g.0
            (λ e. let z : ◌≡◌ {A = ℕ} 0 1 = cc (layer-order.same (layer_key ks (cell_key cell a))) in omega arith)

  pub listing-own : (l : ℕ) (ks : List ℕ) (κ : IkeyClass) → κ.1 ≡ 9
      → ((e : IkeyClass × EntryValue l) → RightValue cell l (ks ++ κ.0 ∷ []) e.0 e.1 → OwnKeys cell l (ks ++ κ.0 ∷ []) e)
      → {es : List (IkeyClass × EntryValue l)} → All (λ e. RightValue cell l (ks ++ κ.0 ∷ []) e.0 e.1) es
      → All (λ x. BelowLinks ks x.0 × (layer_key ks x.0 ≡ κ)) (flattened (entry_listing cell l) es)
  listing-own l ks κ nine f a[] = a[]
  listing-own l ks κ nine f (◌a∷◌ {x = e} g gs) =
      all_append (all_map (λ x p. let r = below-one-less ks κ.0 x.0 p.0 in (r.0, r.1 ∙ ap (λ (x : ℕ). (κ.0, x)) (sym nine)))
      (f e g)) (listing-own l ks κ nine f gs)

  pub right-own : (l : ℕ) (ks : List ℕ) (κ : IkeyClass) (v : EntryValue l) → RightValue cell l ks κ v → OwnKeys cell l ks (κ, v)
  right-own zero ks κ v g = (g.0.0, g.1) a∷ a[]
  right-own (suc l) ks κ (inl c) g = (g.0.0, g.1) a∷ a[]
  right-own (suc l) ks κ (inr es) g = listing-own l ks κ g.0 (λ e. right-own l (ks ++ κ.0 ∷ []) e.0 e.1) g.2

  -- what the entry becomes: a conflict's layers, or the layer below with the new cell
  module _ (c : ℕ) where
    entries-put-list : (l : ℕ) (ks : List ℕ) → ((v : EntryValue l) → RightValue cell l ks (layer_key ks (cell_key cell c)) v
        → NewKey cell c (value_listing cell l v) → value_listing cell l (put_into_value cell c l ks v)
        ≡ alter bytewise (cell_key cell c) (λ o. some (cell c).1) (value_listing cell l v))
        → {es : List (IkeyClass × EntryValue l)} → All (λ e. RightValue cell l ks e.0 e.1) es
        → NewKey cell c (flattened (entry_listing cell l) es)
        → All (λ e. layer_key ks (cell_key cell c) ≡ e.0
        → value_listing cell l (put_into_value cell c l ks e.1) ++ []
        ≡ alter bytewise (cell_key cell c) (λ o. some (cell c).1) (entry_listing cell l e)) es
    entries-put-list l ks ih a[] n = a[]
    entries-put-list l ks ih (◌a∷◌ {x = e} {xs = es} g gs) n =
        let ns = all_split (entry_listing cell l e) (flattened (entry_listing cell l) es) n in
        (λ q. append-nil _ ∙ ih e.1 (subst (λ (κ : IkeyClass). RightValue cell l ks κ e.1) (sym q) g) ns.0) a∷ entries-put-list l
        ks ih gs ns.1

    pub put_into_value-list : (l : ℕ) (ks : List ℕ) (v : EntryValue l) → FitsLayers cell l ks (cell_key cell c)
        → RightValue cell l ks (layer_key ks (cell_key cell c)) v → NewKey cell c (value_listing cell l v)
        → value_listing cell l (put_into_value cell c l ks v)
        ≡ alter bytewise (cell_key cell c) (λ o. some (cell c).1) (value_listing cell l v)
    unfolding alter
    put_into_value-list zero ks b f g (n a∷ a[]) = absurd (n
        (same_key ks (cell_key cell c) (cell_key cell b) f.0 g.0.0 (sym g.1)
        (short-class (rest_below ks (cell_key cell c)) (omega (arith, f.1)))))
    put_into_value-list (suc l) ks (inl b) f g (n a∷ a[]) =
        let x = both-longer (suc l) ks (cell_key cell c) (cell_key cell b) f g.0 n (sym g.1) in
        let k = (layer_key ks (cell_key cell c)).0 in
        conflict_entries-list c b l (ks ++ k ∷ []) (fits_more l ks k (cell_key cell c) f x)
        (fits_more l ks k (cell_key cell b) g.0 (g.1 ∙ x)) n
    put_into_value-list (suc l) ks (inr es) f g n =
        let k = (layer_key ks (cell_key cell c)).0 in
        let ks' = ks ++ k ∷ [] in
        let x : layer_key ks (cell_key cell c) ≡ (k, 9) = ap (λ (y : ℕ). (k, y)) g.0 in
        let f' = fits_more l ks k (cell_key cell c) f x in
        flatten-alter bytewise-order (layer_key ks') (BelowLinks ks') (layer-decides ks') (entry_listing cell l) (cell_key cell c) f'.0
        (λ o. some (cell c).1) (λ o. some (from_option (cell_value l c) (put_into_value cell c l ks') o)) (append-nil _ ∙ listing-one l c)
        g.1 (all_map (λ e. right-own l ks' e.0 e.1) g.2) (entries-put-list l ks' (λ v. put_into_value-list l ks' v f') g.2 n)

    -- a whole layer
    pub layer-put-list : (l : ℕ) (ks : List ℕ) (es : List (IkeyClass × EntryValue l)) → FitsLayers cell l ks (cell_key cell c)
        → Sorted layer_order es → All (λ e. RightValue cell l ks e.0 e.1) es → NewKey cell c (flattened (entry_listing cell l) es)
        → flattened (entry_listing cell l) (alter layer_order (layer_key ks (cell_key cell c))
        (λ o. some (from_option (cell_value l c) (put_into_value cell c l ks) o)) es)
        ≡ alter bytewise (cell_key cell c) (λ o. some (cell c).1) (flattened (entry_listing cell l) es)
    unfolding alter
    layer-put-list l ks es f s g n =
        flatten-alter bytewise-order (layer_key ks) (BelowLinks ks) (layer-decides ks) (entry_listing cell l) (cell_key cell c) f.0
        (λ o. some (cell c).1) (λ o. some (from_option (cell_value l c) (put_into_value cell c l ks) o)) (append-nil _ ∙ listing-one l c)
        s (all_map (λ e. right-own l ks e.0 e.1) g) (entries-put-list l ks (λ v. put_into_value-list l ks v f) g n)
