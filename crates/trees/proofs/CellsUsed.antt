-- A put among the entries uses one cell more, once; and cells out of use may change. Assumes nothing.
use mathlib.Core.List.{List, [], ◌∷◌, ◌++◌}
use mathlib.Core.Logic.{◌≢◌, inl, inr}
use mathlib.Core.Option.{Option, none, some}
use mathlib.Core.Path.{◌≡◌, refl, sym, ap, ◌∙◌, subst, ap₂}
use Prim.Native.Nat.{ℕ, ◌≤◌, ◌<◌, Ordering, zero, suc, ◌+◌, ◌*◌}
use native.Mathlib.Omega.{arith}
use lib.ListN.{length}
use Rattle.order.specs.Lists.{total, flattened}
use Rattle.order.specs.Map.{All, a[], ◌a∷◌, alter, lookup, pick}
use Rattle.order.specs.Options.{worth}
use Rattle.order.proofs.Changes.{lookup-all, alter-sum}
use Rattle.order.proofs.Lists.{all-flattened}
use Rattle.trees.specs.Nodes.{IkeyClass, layer_order, one_at}
use Rattle.trees.specs.Paths.{rest_below, BelowLinks, layer_key}
use Rattle.trees.specs.Entries.{EntryValue, cell_value, from_option, cell_key, value_listing, entry_listing, FitsLayers, RightValue}
use Rattle.trees.specs.Entries.{NewKey, cell_uses}
use Rattle.trees.specs.EntriesPut.{two_entries, conflict_entries, put_into_value}
use Rattle.trees.proofs.Nodes.{layer-order, one_at-same}
use Rattle.trees.proofs.EntriesPut.{short-class, same_key, fits_more, both-longer}

cell_uses-one : (l c j : ℕ) → cell_uses l (cell_value l c) j ≡ one_at c j
cell_uses-one zero c j = refl
cell_uses-one (suc l) c j = refl

-- ---- cells out of use

module _ (at at' : ℕ → List ℕ × ℕ) where
  -- the cells in use, by n, have the same keys and frames
  abbrev SameCells : (ℕ → ℕ) → Type 0
  SameCells n = (j : ℕ) → 0 < n j → at' j ≡ at j

  entries-listing-same : (l : ℕ) → ((v : EntryValue l) → SameCells (cell_uses l v) → value_listing at' l v ≡ value_listing at l v)
      → (es : List (IkeyClass × EntryValue l)) → SameCells (λ j. total (λ e. cell_uses l e.1 j) es)
      → flattened (entry_listing at' l) es ≡ flattened (entry_listing at l) es
  entries-listing-same l f [] h = refl
  entries-listing-same l f (e ∷ es) h = ap₂ ◌++◌ (f e.1 (λ j g. h j (omega arith)))
      (entries-listing-same l f es (λ j g. h j (omega arith)))

  pub value-listing-same : (l : ℕ) (v : EntryValue l) → SameCells (cell_uses l v) → value_listing at' l v ≡ value_listing at l v
  value-listing-same zero c h = ap (◌∷ []) (h c (omega (arith, one_at-same c)))
  value-listing-same (suc l) (inl c) h = ap (◌∷ []) (h c (omega (arith, one_at-same c)))
  value-listing-same (suc l) (inr es) h = entries-listing-same l (value-listing-same l) es h

  pub layer-listing-same : (l : ℕ) (es : List (IkeyClass × EntryValue l)) → SameCells (λ j. total (λ e. cell_uses l e.1 j) es)
      → flattened (entry_listing at' l) es ≡ flattened (entry_listing at l) es
  layer-listing-same l es h = entries-listing-same l (value-listing-same l) es h

  right-entries-same : (l : ℕ) (ks : List ℕ) → ((k : IkeyClass) (v : EntryValue l) → SameCells (cell_uses l v) → RightValue at l ks k v
      → RightValue at' l ks k v)
      → {es : List (IkeyClass × EntryValue l)} → SameCells (λ j. total (λ e. cell_uses l e.1 j) es)
      → All (λ e. RightValue at l ks e.0 e.1) es → All (λ e. RightValue at' l ks e.0 e.1) es
  right-entries-same l ks f h a[] = a[]
  right-entries-same l ks f h (◌a∷◌ {x = e} p ps) =
      f e.0 e.1 (λ j g. h j (omega arith)) p a∷ right-entries-same l ks f (λ j g. h j (omega arith)) ps

  pub right-value-same : (l : ℕ) (ks : List ℕ) (k : IkeyClass) (v : EntryValue l) → SameCells (cell_uses l v) → RightValue at l ks k v
      → RightValue at' l ks k v
  right-value-same zero ks k c h g = subst (λ (x : List ℕ × ℕ). (BelowLinks ks x.0 × (length (rest_below ks x.0) ≤ 8 * 1))
      × (layer_key ks x.0 ≡ k)) (sym (h c (omega (arith, one_at-same c)))) g
  right-value-same (suc l) ks k (inl c) h g =
      subst (λ (x : List ℕ × ℕ). (BelowLinks ks x.0 × (length (rest_below ks x.0) ≤ 8 * suc (suc l))) × (layer_key ks x.0 ≡ k))
      (sym (h c (omega (arith, one_at-same c)))) g
  right-value-same (suc l) ks k (inr es) h g = (
    g.0,
    g.1,
    right-entries-same l (ks ++ k.0 ∷ []) (right-value-same l (ks ++ k.0 ∷ [])) h g.2,
  )

  pub right-layer-same : (l : ℕ) (ks : List ℕ) {es : List (IkeyClass × EntryValue l)}
      → SameCells (λ j. total (λ e. cell_uses l e.1 j) es) → All (λ e. RightValue at l ks e.0 e.1) es
      → All (λ e. RightValue at' l ks e.0 e.1) es
  right-layer-same l ks h g = right-entries-same l ks (right-value-same l ks) h g

-- ---- one more cell, once

module _ (at : ℕ → List ℕ × ℕ) (c : ℕ) where
  two_entries-uses : (b l : ℕ) (ks : List ℕ) (j : ℕ) → layer_order (layer_key ks (cell_key at c)) (layer_key ks (cell_key at b)) ≢ Ordering.eq
      → total (λ e. cell_uses l e.1 j) (two_entries at c b l ks) ≡ one_at c j + one_at b j
  unfolding lookup
  two_entries-uses b l ks j n =
      omega (
        arith,
        alter-sum layer_order (layer_key ks (cell_key at c)) (λ v. cell_uses l v j) (λ o. some (cell_value l c))
            ((layer_key ks (cell_key at b), cell_value l b) ∷ []),
        cell_uses-one l c j,
        cell_uses-one l b j,
        go (layer_order (layer_key ks (cell_key at c)) (layer_key ks (cell_key at b))) n,
      )
    where
      go : (o : Ordering) → o ≢ Ordering.eq → worth (λ v. cell_uses l v j) (pick o none (some (cell_value l b)) none) ≡ 0
      go Ordering.lt n = refl
      go Ordering.eq n = absurd (n refl)
      go Ordering.gt n = refl

  pub conflict_entries-uses : (b l : ℕ) (ks : List ℕ) (j : ℕ) → FitsLayers at l ks (cell_key at c) → FitsLayers at l ks (cell_key at b)
      → cell_key at c ≢ cell_key at b → total (λ e. cell_uses l e.1 j) (conflict_entries at c b l ks) ≡ one_at c j + one_at b j
  conflict_entries-uses b zero ks j f g n = two_entries-uses b zero ks j
      (λ q. n (same_key ks (cell_key at c) (cell_key at b) f.0 g.0 (layer-order.exact _ _ q)
      (short-class (rest_below ks (cell_key at c)) (omega (arith, f.1)))))
  conflict_entries-uses b (suc l) ks j f g n = go (layer_order (layer_key ks (cell_key at c)) (layer_key ks (cell_key at b))) refl
      (conflict_entries-uses b l (ks ++ (layer_key ks (cell_key at c)).0 ∷ []) j)
    where
      k : ℕ
      k = (layer_key ks (cell_key at c)).0

      not-eq : {o : Ordering} → layer_order (layer_key ks (cell_key at c)) (layer_key ks (cell_key at b)) ≡ o → o ≢ Ordering.eq
          → layer_order (layer_key ks (cell_key at c)) (layer_key ks (cell_key at b)) ≢ Ordering.eq
      not-eq q h e = h (sym q ∙ e)

      lt≢ : Ordering.lt ≢ Ordering.eq
      lt≢ e = let z : ◌≡◌ {A = ℕ} 0 1 = cc in omega arith

      gt≢ : Ordering.gt ≢ Ordering.eq
      gt≢ e = let z : ◌≡◌ {A = ℕ} 0 1 = cc in omega arith

      go : (o : Ordering) → layer_order (layer_key ks (cell_key at c)) (layer_key ks (cell_key at b)) ≡ o
          → (FitsLayers at l (ks ++ k ∷ []) (cell_key at c) → FitsLayers at l (ks ++ k ∷ []) (cell_key at b) → cell_key at c ≢ cell_key at b
          → total (λ e. cell_uses l e.1 j) (conflict_entries at c b l (ks ++ k ∷ [])) ≡ one_at c j + one_at b j)
          → total (λ e. cell_uses (suc l) e.1 j) (pick o (two_entries at c b (suc l) ks)
          ((layer_key ks (cell_key at c), inr (conflict_entries at c b l (ks ++ k ∷ []))) ∷ []) (two_entries at c b (suc l) ks))
          ≡ one_at c j + one_at b j
      go Ordering.lt q ih = two_entries-uses b (suc l) ks j (not-eq q lt≢)
      go Ordering.eq q ih =
          let e : layer_key ks (cell_key at c) ≡ layer_key ks (cell_key at b) = layer-order.exact _ _ q in
          let x : layer_key ks (cell_key at c) ≡ (k, 9) = both-longer at (suc l) ks (cell_key at c) (cell_key at b) f g n e in
          omega (arith, ih (fits_more at l ks k (cell_key at c) f x) (fits_more at l ks k (cell_key at b) g (sym e ∙ x)) n)
      go Ordering.gt q ih = two_entries-uses b (suc l) ks j (not-eq q gt≢)

  head : {b : ℕ} → NewKey at c (at b ∷ []) → cell_key at c ≢ cell_key at b
  head (p a∷ a[]) = p

  -- a layer by its entry's step
  layer-uses-by : (l : ℕ) (ks : List ℕ) (es : List (IkeyClass × EntryValue l)) (j : ℕ) → All (λ e. RightValue at l ks e.0 e.1) es
      → NewKey at c (flattened (entry_listing at l) es)
      → ((v : EntryValue l) → RightValue at l ks (layer_key ks (cell_key at c)) v → NewKey at c (value_listing at l v)
      → cell_uses l (put_into_value at c l ks v) j ≡ one_at c j + cell_uses l v j)
      → total (λ e. cell_uses l e.1 j) (alter layer_order (layer_key ks (cell_key at c))
      (λ o. some (from_option (cell_value l c) (put_into_value at c l ks) o)) es) ≡ one_at c j + total (λ e. cell_uses l e.1 j) es
  layer-uses-by l ks es j g n ih = go (lookup layer_order k es) refl
      (alter-sum layer_order k (λ v. cell_uses l v j) (λ o. some (from_option (cell_value l c) (put_into_value at c l ks) o)) es)
    where
      k : IkeyClass
      k = layer_key ks (cell_key at c)

      go : (o : Option (EntryValue l)) → lookup layer_order k es ≡ o
          → total (λ e. cell_uses l e.1 j) (alter layer_order k (λ o. some (from_option (cell_value l c) (put_into_value at c l ks) o)) es)
          + worth (λ v. cell_uses l v j) (lookup layer_order k es)
          ≡ total (λ e. cell_uses l e.1 j) es + cell_uses l
          (from_option (cell_value l c) (put_into_value at c l ks) (lookup layer_order k es)) j
          → total (λ e. cell_uses l e.1 j) (alter layer_order k (λ o. some (from_option (cell_value l c) (put_into_value at c l ks) o)) es)
          ≡ one_at c j + total (λ e. cell_uses l e.1 j) es
      go none q s = omega (
        arith,
        s,
        ap (worth (λ v. cell_uses l v j)) q,
        ap (λ o. cell_uses l (from_option (cell_value l c) (put_into_value at c l ks) o) j) q,
        cell_uses-one l c j,
      )
      go (some v) q s = omega (
        arith,
        s,
        ap (worth (λ v. cell_uses l v j)) q,
        ap (λ o. cell_uses l (from_option (cell_value l c) (put_into_value at c l ks) o) j) q,
        ih v (lookup-all layer_order k layer-order (RightValue at l ks) g v q)
            (lookup-all layer_order k layer-order (λ k v. NewKey at c (value_listing at l v)) (all-flattened (entry_listing at l) es n) v q),
      )

  pub put_into_value-uses : (l : ℕ) (ks : List ℕ) (j : ℕ) (v : EntryValue l) → FitsLayers at l ks (cell_key at c)
      → RightValue at l ks (layer_key ks (cell_key at c)) v → NewKey at c (value_listing at l v)
      → cell_uses l (put_into_value at c l ks v) j ≡ one_at c j + cell_uses l v j
  put_into_value-uses zero ks j b f g n = absurd (head n
      (same_key ks (cell_key at c) (cell_key at b) f.0 g.0.0 (sym g.1)
      (short-class (rest_below ks (cell_key at c)) (omega (arith, f.1)))))
  put_into_value-uses (suc l) ks j (inl b) f g n =
      let x = both-longer at (suc l) ks (cell_key at c) (cell_key at b) f g.0 (head n) (sym g.1) in
      let k = (layer_key ks (cell_key at c)).0 in
      conflict_entries-uses b l (ks ++ k ∷ []) j (fits_more at l ks k (cell_key at c) f x)
      (fits_more at l ks k (cell_key at b) g.0 (g.1 ∙ x)) (head n)
  put_into_value-uses (suc l) ks j (inr es) f g n =
      let k = (layer_key ks (cell_key at c)).0 in
      let f' = fits_more at l ks k (cell_key at c) f (ap (λ (y : ℕ). (k, y)) g.0) in
      layer-uses-by l (ks ++ k ∷ []) es j g.2 n (λ v g n. put_into_value-uses l (ks ++ k ∷ []) j v f' g n)

  pub layer-put-uses : (l : ℕ) (ks : List ℕ) (es : List (IkeyClass × EntryValue l)) (j : ℕ) → FitsLayers at l ks (cell_key at c)
      → All (λ e. RightValue at l ks e.0 e.1) es → NewKey at c (flattened (entry_listing at l) es)
      → total (λ e. cell_uses l e.1 j) (alter layer_order (layer_key ks (cell_key at c))
      (λ o. some (from_option (cell_value l c) (put_into_value at c l ks) o)) es) ≡ one_at c j + total (λ e. cell_uses l e.1 j) es
  layer-put-uses l ks es j f g n = layer-uses-by l ks es j g n (λ v g n. put_into_value-uses l ks j v f g n)
