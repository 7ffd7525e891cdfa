-- The search among the entries finds what they list; a removal takes it from there, and gives its cell back. Assumes nothing.
use mathlib.Core.List.{List, [], ◌∷◌, ◌++◌, append-nil}
use mathlib.Core.Logic.{inl, inr}
use mathlib.Core.Option.{Option, none, some}
use mathlib.Core.Path.{◌≡◌, refl, sym, ap, ◌∙◌, subst}
use Prim.Native.Nat.{ℕ, Ordering, zero, suc, ◌+◌}
use native.Mathlib.Omega.{arith}
use Rattle.order.specs.Bytes.{Order, flip, bytewise}
use Rattle.order.specs.Lists.{total, flattened}
use Rattle.order.specs.Map.{All, a[], ◌a∷◌, Sorted, ◌s∷◌, alter, lookup, pick, put, s[]}
use Rattle.order.specs.Options.{worth}
use Rattle.order.proofs.Bytes.{bytewise-order}
use Rattle.order.proofs.Changes.{lookup-all, alter-sum}
use Rattle.order.proofs.Lookup.{lookup-left, lookup-right, lookup-above}
use Rattle.order.proofs.Map.{all_map, alter-sorted}
use Rattle.trees.specs.Nodes.{IkeyClass, layer_order, one_at}
use Rattle.trees.specs.Paths.{BelowLinks, layer_key, path_down}
use Rattle.trees.specs.Entries.{RightLayer, EntryValue, cell_key, value_listing, entry_listing, RightValue, cell_uses}
use Rattle.trees.specs.EntriesFound.{through, cell_asked, value_find, entries_find, frame_found, value_without}
use Rattle.trees.proofs.Nodes.{layer-order}
use Rattle.trees.proofs.Paths.{OwnsListing, below, aboves, flatten-alter, layer-decides}
use Rattle.trees.proofs.EntriesPut.{below-one-more, right-own}

-- ---- what a layer lists is found through its entry

module _ {B F W : Type 0} {cmp : B → B → Ordering} (o : Order B cmp) (lk : B → IkeyClass) (Dom : B → Type 0)
    (compat : (a b : B) → Dom a → Dom b → layer_order (lk a) (lk b) ≡ Ordering.lt → cmp a b ≡ Ordering.lt)
    (L : IkeyClass × W → List (B × F)) (K : B) (d : Dom K) where
  pub flatten-lookup : {es : List (IkeyClass × W)} → Sorted layer_order es → All (OwnsListing o lk Dom compat L) es
      → lookup cmp K (flattened L es) ≡ through (λ w. lookup cmp K (L (lk K, w))) (lookup layer_order (lk K) es)
  unfolding lookup
  flatten-lookup s[] a[] = refl
  flatten-lookup (◌s∷◌ {e = e} {es = es} h s) (a a∷ bs) = go (layer_order (lk K) e.0) refl (flatten-lookup s bs)
    where
      go : (c : Ordering) → layer_order (lk K) e.0 ≡ c
          → lookup cmp K (flattened L es) ≡ through (λ w. lookup cmp K (L (lk K, w))) (lookup layer_order (lk K) es)
          → lookup cmp K (L e ++ flattened L es) ≡ through (λ w. lookup cmp K (L (lk K, w)))
          (pick c none (some e.1) (lookup layer_order (lk K) es))
      go Ordering.lt q ih = lookup-above cmp K (aboves o lk Dom compat L K d
          (q a∷ all_map (λ x. layer-order.trans (lk K) e.0 x.0 q) h) (a a∷ bs))
      go Ordering.eq q ih =
          let r : lk K ≡ e.0 = layer-order.exact (lk K) e.0 q in
          lookup-right o K (L e) (aboves o lk Dom compat L K d (rw r h) bs) ∙ ap (λ (k : IkeyClass). lookup cmp K (L (k, e.1))) (sym r)
      go Ordering.gt q ih = lookup-left o K (flattened L es)
          (below o lk Dom compat L K d e (layer-order.swap (lk K) e.0 ∙ ap flip q) a) ∙ ih

module _ (at : ℕ → List ℕ × ℕ) (K : List ℕ) where
  -- ---- search

  cell_asked-is : (b : ℕ) → frame_found at K (cell_asked at K b) ≡ lookup bytewise K (at b ∷ [])
  unfolding lookup
  cell_asked-is b = go (bytewise K (cell_key at b))
    where
      go : (o : Ordering) → frame_found at K (pick o none (some b) none) ≡ pick o none (some (at b).1) none
      go Ordering.lt = refl
      go Ordering.eq = refl
      go Ordering.gt = refl

  entries_find-by : (l : ℕ) (ks : List ℕ) (es : List (IkeyClass × EntryValue l)) → BelowLinks ks K → RightLayer at l ks es
      → ((v : EntryValue l) → RightValue at l ks (layer_key ks K) v
      → frame_found at K (value_find at K l ks v) ≡ lookup bytewise K (value_listing at l v))
      → frame_found at K (entries_find at K l ks es) ≡ lookup bytewise K (flattened (entry_listing at l) es)
  entries_find-by l ks es u G ih = go (lookup layer_order (layer_key ks K) es) refl
      ∙ sym (flatten-lookup bytewise-order (layer_key ks) (BelowLinks ks) (layer-decides ks) (entry_listing at l) K u G.0
      (all_map (λ e. right-own at l ks e.0 e.1) G.1))
    where
      go : (o : Option (EntryValue l)) → lookup layer_order (layer_key ks K) es ≡ o
          → frame_found at K (through (value_find at K l ks) o) ≡ through (λ w. lookup bytewise K (value_listing at l w)) o
      go none q = refl
      go (some v) q = ih v (lookup-all layer_order (layer_key ks K) layer-order (RightValue at l ks) G.1 v q)

  pub value_find-list : (l : ℕ) (ks : List ℕ) (v : EntryValue l) → BelowLinks ks K → RightValue at l ks (layer_key ks K) v
      → frame_found at K (value_find at K l ks v) ≡ lookup bytewise K (value_listing at l v)
  value_find-list zero ks b u g = cell_asked-is b
  value_find-list (suc l) ks (inl b) u g = cell_asked-is b
  value_find-list (suc l) ks (inr es) u g =
      let u' = below-one-more ks (layer_key ks K).0 K u (ap (λ (y : ℕ). ((layer_key ks K).0, y)) g.0) in
      entries_find-by l (path_down K ks) es u' (g.1, g.2) (λ v. value_find-list l (path_down K ks) v u')

  pub entries_find-list : (l : ℕ) (ks : List ℕ) (es : List (IkeyClass × EntryValue l)) → BelowLinks ks K → RightLayer at l ks es
      → frame_found at K (entries_find at K l ks es) ≡ lookup bytewise K (flattened (entry_listing at l) es)
  entries_find-list l ks es u G = entries_find-by l ks es u G (λ v. value_find-list l ks v u)

  -- ---- removal: the listing

  cell-without : {W : Type 0} (k : IkeyClass) (L : IkeyClass × W → List (List ℕ × ℕ)) (b : ℕ) (v : W) → L (k, v) ≡ at b ∷ []
      → flattened L (put k (pick (bytewise K (cell_key at b)) (some v) none (some v)) [])
      ≡ alter bytewise K (λ (o : Option ℕ). none) (at b ∷ [])
  unfolding alter
  cell-without k L b v e = go (bytewise K (cell_key at b))
    where
      go : (o : Ordering) → flattened L (put k (pick o (some v) none (some v)) []) ≡ pick o (at b ∷ []) [] (at b ∷ [])
      go Ordering.lt = append-nil _ ∙ e
      go Ordering.eq = refl
      go Ordering.gt = append-nil _ ∙ e

  entries-without : (l : ℕ) (ks : List ℕ) → ((v : EntryValue l) → RightValue at l ks (layer_key ks K) v
      → flattened (entry_listing at l) (put (layer_key ks K) (value_without at K l ks v) [])
      ≡ alter bytewise K (λ (o : Option ℕ). none) (value_listing at l v))
      → {es : List (IkeyClass × EntryValue l)} → All (λ e. RightValue at l ks e.0 e.1) es
      → All (λ e. layer_key ks K ≡ e.0 → flattened (entry_listing at l) (put (layer_key ks K) (value_without at K l ks e.1) [])
      ≡ alter bytewise K (λ (o : Option ℕ). none) (entry_listing at l e)) es
  entries-without l ks ih a[] = a[]
  entries-without l ks ih (◌a∷◌ {x = e} g gs) = (λ q. ih e.1 (subst (λ (k : IkeyClass). RightValue at l ks k e.1) (sym q) g))
      a∷ entries-without l ks ih gs

  layer-without-by : (l : ℕ) (ks : List ℕ) (es : List (IkeyClass × EntryValue l)) → BelowLinks ks K → RightLayer at l ks es
      → ((v : EntryValue l) → RightValue at l ks (layer_key ks K) v
      → flattened (entry_listing at l) (put (layer_key ks K) (value_without at K l ks v) [])
      ≡ alter bytewise K (λ (o : Option ℕ). none) (value_listing at l v))
      → flattened (entry_listing at l) (alter layer_order (layer_key ks K) (through (value_without at K l ks)) es)
      ≡ alter bytewise K (λ (o : Option ℕ). none) (flattened (entry_listing at l) es)
  unfolding alter
  layer-without-by l ks es u G ih =
      flatten-alter bytewise-order (layer_key ks) (BelowLinks ks) (layer-decides ks) (entry_listing at l) K u (λ o. none)
      (through (value_without at K l ks)) refl G.0 (all_map (λ e. right-own at l ks e.0 e.1) G.1)
      (entries-without l ks ih G.1)

  value_without-list : (l : ℕ) (ks : List ℕ) (v : EntryValue l) → BelowLinks ks K → RightValue at l ks (layer_key ks K) v
      → flattened (entry_listing at l) (put (layer_key ks K) (value_without at K l ks v) [])
      ≡ alter bytewise K (λ (o : Option ℕ). none) (value_listing at l v)
  value_without-list zero ks b u g = cell-without (layer_key ks K) (entry_listing at zero) b b refl
  value_without-list (suc l) ks (inl b) u g = cell-without (layer_key ks K) (entry_listing at (suc l)) b (inl b) refl
  value_without-list (suc l) ks (inr es) u g =
      let u' = below-one-more ks (layer_key ks K).0 K u (ap (λ (y : ℕ). ((layer_key ks K).0, y)) g.0) in
      append-nil _ ∙ layer-without-by l (path_down K ks) es u' (g.1, g.2) (λ v. value_without-list l (path_down K ks) v u')

  pub layer-without-list : (l : ℕ) (ks : List ℕ) (es : List (IkeyClass × EntryValue l)) → BelowLinks ks K → RightLayer at l ks es
      → flattened (entry_listing at l) (alter layer_order (layer_key ks K) (through (value_without at K l ks)) es)
      ≡ alter bytewise K (λ (o : Option ℕ). none) (flattened (entry_listing at l) es)
  layer-without-list l ks es u G = layer-without-by l ks es u G (λ v. value_without-list l ks v u)

  -- ---- removal: entries stay right

  -- P holds of what is there, if anything is
  abbrev IfThere : {W : Type 0} → (W → Type 0) → Option W → Type 0
  IfThere P none = Unit {0}
  IfThere P (some w) = P w

  put-if-there : {W : Type 0} (P : IkeyClass → W → Type 0) (k : IkeyClass) (o : Option W) {es : List (IkeyClass × W)} → IfThere (P k) o
      → All (λ e. P e.0 e.1) es → All (λ e. P e.0 e.1) (put k o es)
  put-if-there P k none p ps = ps
  put-if-there P k (some w) p ps = p a∷ ps

  alter-if-there : {W : Type 0} (P : IkeyClass → W → Type 0) (k : IkeyClass) (f : W → Option W) → ((w : W) → P k w → IfThere (P k) (f w))
      → {es : List (IkeyClass × W)} → All (λ e. P e.0 e.1) es
      → All (λ e. P e.0 e.1) (alter layer_order k (through f) es)
  unfolding alter
  alter-if-there P k f h a[] = a[]
  alter-if-there P k f h (◌a∷◌ {x = e} {xs = es} p ps) = go (layer_order k e.0) refl (alter-if-there P k f h ps)
    where
      go : (c : Ordering) → layer_order k e.0 ≡ c → All (λ e. P e.0 e.1) (alter layer_order k (through f) es)
          → All (λ e. P e.0 e.1) (pick c (e ∷ es) (put k (f e.1) es) (e ∷ alter layer_order k (through f) es))
      go Ordering.lt q ih = p a∷ ps
      go Ordering.eq q ih = put-if-there P k (f e.1) (h e.1 (rw (layer-order.exact k e.0 q) p)) ps
      go Ordering.gt q ih = p a∷ ih

  cell-if-there : {W : Type 0} (P : W → Type 0) (b : ℕ) (v : W) → P v → IfThere P (pick (bytewise K (cell_key at b)) (some v) none (some v))
  cell-if-there P b v p = go (bytewise K (cell_key at b))
    where
      go : (o : Ordering) → IfThere P (pick o (some v) none (some v))
      go Ordering.lt = p
      go Ordering.eq = tt
      go Ordering.gt = p

  value_without-right : (l : ℕ) (ks : List ℕ) (v : EntryValue l) → RightValue at l ks (layer_key ks K) v
      → IfThere (RightValue at l ks (layer_key ks K)) (value_without at K l ks v)
  value_without-right zero ks b g = cell-if-there (RightValue at zero ks (layer_key ks K)) b b g
  value_without-right (suc l) ks (inl b) g = cell-if-there (RightValue at (suc l) ks (layer_key ks K)) b (inl b) g
  value_without-right (suc l) ks (inr es) g = (
    g.0,
    alter-sorted layer-order _ _ g.1,
    alter-if-there (RightValue at l (path_down K ks)) (layer_key (path_down K ks) K)
        (value_without at K l (path_down K ks)) (λ v h. value_without-right l (path_down K ks) v h) g.2,
  )

  pub layer-without-right : (l : ℕ) (ks : List ℕ) (es : List (IkeyClass × EntryValue l)) → RightLayer at l ks es
      → RightLayer at l ks (alter layer_order (layer_key ks K) (through (value_without at K l ks)) es)
  layer-without-right l ks es G = (
    alter-sorted layer-order _ _ G.0,
    alter-if-there (RightValue at l ks) (layer_key ks K) (value_without at K l ks) (λ v h. value_without-right l ks v h) G.1,
  )

  -- ---- removal: cells

  layer-uses-without : (l : ℕ) (ks : List ℕ) (es : List (IkeyClass × EntryValue l)) (j : ℕ)
      → ((v : EntryValue l) → worth (λ w. cell_uses l w j) (value_without at K l ks v) + worth (λ b. one_at b j) (value_find at K l ks v)
      ≡ cell_uses l v j)
      → total (λ e. cell_uses l e.1 j) (alter layer_order (layer_key ks K) (through (value_without at K l ks)) es) + worth (λ b. one_at b j)
      (entries_find at K l ks es) ≡ total (λ e. cell_uses l e.1 j) es
  layer-uses-without l ks es j ih = go (lookup layer_order k es)
      (alter-sum layer_order k (λ w. cell_uses l w j) (through (value_without at K l ks)) es)
    where
      k : IkeyClass
      k = layer_key ks K

      go : (o : Option (EntryValue l)) → total (λ e. cell_uses l e.1 j)
          (alter layer_order k (through (value_without at K l ks)) es) + worth (λ w. cell_uses l w j) o
          ≡ total (λ e. cell_uses l e.1 j) es + worth (λ w. cell_uses l w j) (through (value_without at K l ks) o)
          → total (λ e. cell_uses l e.1 j) (alter layer_order k (through (value_without at K l ks)) es) + worth (λ b. one_at b j)
          (through (value_find at K l ks) o) ≡ total (λ e. cell_uses l e.1 j) es
      go none s = omega (arith, s)
      go (some v) s = omega (arith, s, ih v)

  cell-uses : (l b j : ℕ) (v : EntryValue l) → cell_uses l v j ≡ one_at b j → (o : Ordering)
      → worth (λ w. cell_uses l w j) (pick o (some v) none (some v)) + worth (λ b. one_at b j) (pick o none (some b) none) ≡ cell_uses l v j
  cell-uses l b j v e Ordering.lt = omega arith
  cell-uses l b j v e Ordering.eq = omega arith
  cell-uses l b j v e Ordering.gt = omega arith

  value_without-uses : (l : ℕ) (ks : List ℕ) (j : ℕ) (v : EntryValue l)
      → worth (λ w. cell_uses l w j) (value_without at K l ks v) + worth (λ b. one_at b j) (value_find at K l ks v) ≡ cell_uses l v j
  value_without-uses zero ks j b = cell-uses zero b j b refl (bytewise K (cell_key at b))
  value_without-uses (suc l) ks j (inl b) = cell-uses (suc l) b j (inl b) refl (bytewise K (cell_key at b))
  value_without-uses (suc l) ks j (inr es) = layer-uses-without l (path_down K ks) es j (value_without-uses l (path_down K ks) j)

  pub layer-without-uses : (l : ℕ) (ks : List ℕ) (es : List (IkeyClass × EntryValue l)) (j : ℕ)
      → total (λ e. cell_uses l e.1 j) (alter layer_order (layer_key ks K) (through (value_without at K l ks)) es) + worth (λ b. one_at b j)
      (entries_find at K l ks es) ≡ total (λ e. cell_uses l e.1 j) es
  layer-without-uses l ks es j = layer-uses-without l ks es j (value_without-uses l ks j)
