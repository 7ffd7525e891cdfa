-- A put among the entries keeps what they must be, and what right entries list is sorted. Assumes nothing.
use mathlib.Core.List.{List, [], ◌∷◌, ◌++◌}
use mathlib.Core.Logic.{◌≢◌, inl, inr}
use mathlib.Core.Option.{some}
use mathlib.Core.Path.{◌≡◌, refl, sym, ap, ◌∙◌}
use Prim.Native.Nat.{ℕ, Ordering, zero, suc}
use Rattle.order.specs.Bytes.{bytewise}
use Rattle.order.specs.Lists.{flattened}
use Rattle.order.specs.Map.{All, a[], ◌a∷◌, Sorted, ◌s∷◌, alter, pick, s[]}
use Rattle.order.proofs.Bytes.{bytewise-order}
use Rattle.order.proofs.Changes.{alter-each}
use Rattle.order.proofs.Map.{all_map, alter-sorted, all_split}
use Rattle.trees.specs.Nodes.{IkeyClass, layer_order}
use Rattle.trees.specs.Paths.{BelowLinks, layer_key}
use Rattle.trees.specs.Entries.{RightLayer, EntryValue, cell_value, from_option, cell_key, value_listing, entry_listing, FitsLayers}
use Rattle.trees.specs.Entries.{RightValue, NewKey}
use Rattle.trees.specs.EntriesPut.{two_entries, conflict_entries, put_into_value}
use Rattle.trees.proofs.Nodes.{layer-order}
use Rattle.trees.proofs.Paths.{flatten-sorted, layer-decides}
use Rattle.trees.proofs.EntriesPut.{fits_more, both-longer, right-own}

module _ (cell : ℕ → List ℕ × ℕ) where
  pub right-one : (l : ℕ) (ks : List ℕ) (c : ℕ) → FitsLayers cell l ks (cell_key cell c)
      → RightValue cell l ks (layer_key ks (cell_key cell c)) (cell_value l c)
  right-one zero ks c f = (f, refl)
  right-one (suc l) ks c f = (f, refl)

  module _ (a b : ℕ) where
    two_entries-right : (l : ℕ) (ks : List ℕ) → FitsLayers cell l ks (cell_key cell a) → FitsLayers cell l ks (cell_key cell b)
        → RightLayer cell l ks (two_entries cell a b l ks)
    two_entries-right l ks f g = (
      alter-sorted layer-order _ _ (a[] s∷ s[]),
      alter-each layer-order (layer_key ks (cell_key cell a)) (λ o. cell_value l a) (RightValue cell l ks) (right-one l ks a f)
          (right-one l ks b g a∷ a[]) ((λ e p. right-one l ks a f) a∷ a[]),
    )

    pub conflict_entries-right : (l : ℕ) (ks : List ℕ) → FitsLayers cell l ks (cell_key cell a) → FitsLayers cell l ks (cell_key cell b)
        → cell_key cell a ≢ cell_key cell b → RightLayer cell l ks (conflict_entries cell a b l ks)
    conflict_entries-right zero ks f g n = two_entries-right zero ks f g
    conflict_entries-right (suc l) ks f g n = go (layer_order (layer_key ks (cell_key cell a)) (layer_key ks (cell_key cell b))) refl
        (conflict_entries-right l (ks ++ (layer_key ks (cell_key cell a)).0 ∷ []))
      where
        k : ℕ
        k = (layer_key ks (cell_key cell a)).0

        go : (c : Ordering) → layer_order (layer_key ks (cell_key cell a)) (layer_key ks (cell_key cell b)) ≡ c
            → (FitsLayers cell l (ks ++ k ∷ []) (cell_key cell a) → FitsLayers cell l (ks ++ k ∷ []) (cell_key cell b)
            → cell_key cell a ≢ cell_key cell b → RightLayer cell l (ks ++ k ∷ []) (conflict_entries cell a b l (ks ++ k ∷ [])))
            → RightLayer cell (suc l) ks (pick c (two_entries cell a b (suc l) ks)
            ((layer_key ks (cell_key cell a), inr (conflict_entries cell a b l (ks ++ k ∷ []))) ∷ []) (two_entries cell a b (suc l) ks))
        go Ordering.lt q ih = two_entries-right (suc l) ks f g
        go Ordering.eq q ih =
            let e : layer_key ks (cell_key cell a) ≡ layer_key ks (cell_key cell b) = layer-order.exact _ _ q in
            let x : layer_key ks (cell_key cell a) ≡ (k, 9) = both-longer cell (suc l) ks (cell_key cell a) (cell_key cell b) f g n e in
            let L = ih (fits_more cell l ks k (cell_key cell a) f x) (fits_more cell l ks k (cell_key cell b) g (sym e ∙ x)) n in
            let G : RightValue cell (suc l) ks (layer_key ks (cell_key cell a)) (inr (conflict_entries cell a b l (ks ++ k ∷ []))) =
            (ap (λ (y : IkeyClass). y.1) x, L.0, L.1) in
            (a[] s∷ s[], G a∷ a[])
        go Ordering.gt q ih = two_entries-right (suc l) ks f g

  module _ (c : ℕ) where
    entries-put-right : (l : ℕ) (ks : List ℕ) → ((v : EntryValue l) → RightValue cell l ks (layer_key ks (cell_key cell c)) v
        → NewKey cell c (value_listing cell l v) → RightValue cell l ks (layer_key ks (cell_key cell c)) (put_into_value cell c l ks v))
        → {es : List (IkeyClass × EntryValue l)} → All (λ e. RightValue cell l ks e.0 e.1) es
        → NewKey cell c (flattened (entry_listing cell l) es)
        → All (λ e. layer_key ks (cell_key cell c) ≡ e.0 → RightValue cell l ks (layer_key ks (cell_key cell c)) e.1
        → RightValue cell l ks (layer_key ks (cell_key cell c)) (put_into_value cell c l ks e.1)) es
    entries-put-right l ks ih a[] n = a[]
    entries-put-right l ks ih (◌a∷◌ {x = e} {xs = es} g gs) n =
        let ns = all_split (entry_listing cell l e) (flattened (entry_listing cell l) es) n in
        (λ q p. ih e.1 p ns.0) a∷ entries-put-right l ks ih gs ns.1

    pub put_into_value-right : (l : ℕ) (ks : List ℕ) (v : EntryValue l) → FitsLayers cell l ks (cell_key cell c)
        → RightValue cell l ks (layer_key ks (cell_key cell c)) v → NewKey cell c (value_listing cell l v)
        → RightValue cell l ks (layer_key ks (cell_key cell c)) (put_into_value cell c l ks v)
    put_into_value-right zero ks b f g n = g
    put_into_value-right (suc l) ks (inl b) f g (n a∷ a[]) =
        let x = both-longer cell (suc l) ks (cell_key cell c) (cell_key cell b) f g.0 n (sym g.1) in
        let k = (layer_key ks (cell_key cell c)).0 in
        let L = conflict_entries-right c b l (ks ++ k ∷ []) (fits_more cell l ks k (cell_key cell c) f x)
        (fits_more cell l ks k (cell_key cell b) g.0 (g.1 ∙ x)) n in
        (ap (λ (y : IkeyClass). y.1) x, L.0, L.1)
    put_into_value-right (suc l) ks (inr es) f g n =
        let k = (layer_key ks (cell_key cell c)).0 in
        let ks' = ks ++ k ∷ [] in
        let f' = fits_more cell l ks k (cell_key cell c) f (ap (λ (y : ℕ). (k, y)) g.0) in (
          g.0,
          alter-sorted layer-order _ _ g.1,
          alter-each layer-order (layer_key ks' (cell_key cell c)) (from_option (cell_value l c) (put_into_value cell c l ks'))
              (RightValue cell l ks') (right-one l ks' c f') g.2 (entries-put-right l ks' (λ v. put_into_value-right l ks' v f') g.2 n),
        )

    pub layer-put-right : (l : ℕ) (ks : List ℕ) (es : List (IkeyClass × EntryValue l)) → FitsLayers cell l ks (cell_key cell c)
        → RightLayer cell l ks es → NewKey cell c (flattened (entry_listing cell l) es)
        → RightLayer cell l ks (alter layer_order (layer_key ks (cell_key cell c))
        (λ o. some (from_option (cell_value l c) (put_into_value cell c l ks) o)) es)
    layer-put-right l ks es f g n = (
      alter-sorted layer-order _ _ g.0,
      alter-each layer-order (layer_key ks (cell_key cell c)) (from_option (cell_value l c) (put_into_value cell c l ks)) (RightValue cell l ks)
          (right-one l ks c f) g.1 (entries-put-right l ks (λ v. put_into_value-right l ks v f) g.1 n),
    )

  -- ---- the listing is sorted

  values-sorted : (l : ℕ) (ks : List ℕ) → ((κ : IkeyClass) (v : EntryValue l) → RightValue cell l ks κ v
      → Sorted bytewise (value_listing cell l v)) → {es : List (IkeyClass × EntryValue l)} → All (λ e. RightValue cell l ks e.0 e.1) es
      → All (λ e. Sorted bytewise (entry_listing cell l e)) es
  values-sorted l ks f a[] = a[]
  values-sorted l ks f (◌a∷◌ {x = e} g gs) = f e.0 e.1 g a∷ values-sorted l ks f gs

  listing-flat-sorted : (l : ℕ) (ks : List ℕ) (es : List (IkeyClass × EntryValue l)) → RightLayer cell l ks es
      → All (λ e. Sorted bytewise (entry_listing cell l e)) es → Sorted bytewise (flattened (entry_listing cell l) es)
  listing-flat-sorted l ks es g c = flatten-sorted bytewise-order (layer_key ks) (BelowLinks ks) (layer-decides ks) (entry_listing cell l)
      g.0 (all_map (λ e. right-own cell l ks e.0 e.1) g.1) c

  value-sorted : (l : ℕ) (ks : List ℕ) (κ : IkeyClass) (v : EntryValue l) → RightValue cell l ks κ v
      → Sorted bytewise (value_listing cell l v)
  value-sorted zero ks κ b g = a[] s∷ s[]
  value-sorted (suc l) ks κ (inl b) g = a[] s∷ s[]
  value-sorted (suc l) ks κ (inr es) g = listing-flat-sorted l (ks ++ κ.0 ∷ []) es (g.1, g.2)
      (values-sorted l (ks ++ κ.0 ∷ []) (value-sorted l (ks ++ κ.0 ∷ [])) g.2)

  pub listing-is-sorted : (l : ℕ) (ks : List ℕ) (es : List (IkeyClass × EntryValue l)) → RightLayer cell l ks es
      → Sorted bytewise (flattened (entry_listing cell l) es)
  listing-is-sorted l ks es g = listing-flat-sorted l ks es g (values-sorted l ks (value-sorted l ks) g.1)
