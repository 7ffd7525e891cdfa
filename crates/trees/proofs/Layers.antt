-- Layers that memory has, it has after a change elsewhere; and where one entry was changed. Assumes nothing.
use mathlib.Core.List.{List, ◌∷◌}
use mathlib.Core.Logic.{inl, inr}
use mathlib.Core.Option.{none, some}
use mathlib.Core.Path.{◌≡◌, refl}
use Prim.Native.Nat.{ℕ, ◌<◌, Ordering, zero, suc, ◌+◌}
use native.Mathlib.Omega.{arith}
use Rattle.order.specs.Lists.{total}
use Rattle.order.specs.Map.{All, a[], ◌a∷◌, alter, lookup, pick}
use Rattle.order.specs.Options.{worth}
use Rattle.order.proofs.Changes.{worth-le}
use Rattle.trees.specs.Nodes.{IkeyClass, layer_order, NodeList, node_in}
use Rattle.trees.specs.Tree.{AnyTree, any_reaches, HoldsAny}
use Rattle.trees.specs.Entries.{cell_value}
use Rattle.trees.specs.Layers.{Pointer, cell, LayeredValue, layered_cell, bare_value, pointer_of, value_reaches, HoldsValue}
use Rattle.trees.proofs.PutInMemory.{tree-framed}

pub bare_value-one : (l c : ℕ) → bare_value l (layered_cell l c) ≡ cell_value l c
bare_value-one zero c = refl
bare_value-one (suc l) c = refl

pub pointer_of-one : (l c : ℕ) → pointer_of l (layered_cell l c) ≡ cell c
pointer_of-one zero c = refl
pointer_of-one (suc l) c = refl

pub value_reaches-one : (l c j : ℕ) → value_reaches l (layered_cell l c) j ≡ 0
value_reaches-one zero c j = refl
value_reaches-one (suc l) c j = refl

module _ (top hi : ℕ) where
  pub HoldsValue-one : (m : NodeList Pointer) (l c : ℕ) → HoldsValue top hi m l (layered_cell l c)
  HoldsValue-one m zero c = tt
  HoldsValue-one m (suc l) c = tt

  -- ---- frames

  pub any-framed : (m m' : NodeList Pointer) (t : AnyTree Pointer) → ((j : ℕ) → 0 < any_reaches Pointer t j → node_in m' j ≡ node_in m j)
      → HoldsAny Pointer top hi m t → HoldsAny Pointer top hi m' t
  any-framed m m' t h g = (g.0, tree-framed Pointer top 0 (λ l. 0) t.0 m m' t.1 h g.1)

  module _ (m m' : NodeList Pointer) where
    values-framed : (l : ℕ) → ((v : LayeredValue l) → ((j : ℕ) → 0 < value_reaches l v j → node_in m' j ≡ node_in m j)
        → HoldsValue top hi m l v → HoldsValue top hi m' l v)
        → {es : List (IkeyClass × LayeredValue l)} → ((j : ℕ) → 0 < total (λ e. value_reaches l e.1 j) es → node_in m' j ≡ node_in m j)
        → All (λ e. HoldsValue top hi m l e.1) es → All (λ e. HoldsValue top hi m' l e.1) es
    values-framed l f h a[] = a[]
    values-framed l f h (◌a∷◌ {x = e} p ps) = f e.1 (λ j g. h j (omega arith)) p a∷ values-framed l f (λ j g. h j (omega arith)) ps

    pub value-framed : (l : ℕ) (v : LayeredValue l) → ((j : ℕ) → 0 < value_reaches l v j → node_in m' j ≡ node_in m j)
        → HoldsValue top hi m l v → HoldsValue top hi m' l v
    value-framed zero c h g = tt
    value-framed (suc l) (inl c) h g = tt
    value-framed (suc l) (inr v) h g = (
      any-framed m m' v.0 (λ j i. h j (omega arith)) g.0,
      g.1,
      values-framed l (value-framed l) (λ j i. h j (omega arith)) g.2,
    )

    -- one entry anew, and the others where they were
    pub alter-holds : (l : ℕ) (k : IkeyClass) (w : LayeredValue l) → HoldsValue top hi m' l w → {es : List (IkeyClass × LayeredValue l)}
        → All (λ e. HoldsValue top hi m l e.1) es
        → ((j : ℕ) → worth (λ v. value_reaches l v j) (lookup layer_order k es) < total (λ e. value_reaches l e.1 j) es
        → node_in m' j ≡ node_in m j)
        → All (λ e. HoldsValue top hi m' l e.1) (alter layer_order k (λ o. some w) es)
    unfolding alter lookup
    alter-holds l k w n a[] h = n a∷ a[]
    alter-holds l k w n (◌a∷◌ {x = e} {xs = es} p ps) h = go (layer_order k e.0) h (alter-holds l k w n ps)
      where
        go : (c : Ordering) → ((j : ℕ) → worth (λ v. value_reaches l v j)
            (pick c none (some e.1) (lookup layer_order k es)) < value_reaches l e.1 j + total (λ e. value_reaches l e.1 j) es
            → node_in m' j ≡ node_in m j)
            → (((j : ℕ) → worth (λ v. value_reaches l v j) (lookup layer_order k es) < total (λ e. value_reaches l e.1 j) es
            → node_in m' j ≡ node_in m j) → All (λ e. HoldsValue top hi m' l e.1) (alter layer_order k (λ o. some w) es))
            → All (λ e. HoldsValue top hi m' l e.1) (pick c ((k, w) ∷ e ∷ es) ((k, w) ∷ es) (e ∷ alter layer_order k (λ o. some w) es))
        go Ordering.lt h ih = n a∷ values-framed l (value-framed l) h (p a∷ ps)
        go Ordering.eq h ih = n a∷ values-framed l (value-framed l) (λ j g. h j (omega arith)) ps
        go Ordering.gt h ih = value-framed l e.1 (λ j g. h j (omega (arith, worth-le layer_order k (λ v. value_reaches l v j) es))) p
            a∷ ih (λ j g. h j (omega arith))

    -- an entry less
    pub erase-holds : (l : ℕ) (k : IkeyClass) → {es : List (IkeyClass × LayeredValue l)} → All (λ e. HoldsValue top hi m l e.1) es
        → ((j : ℕ) → worth (λ v. value_reaches l v j) (lookup layer_order k es) < total (λ e. value_reaches l e.1 j) es
        → node_in m' j ≡ node_in m j)
        → All (λ e. HoldsValue top hi m' l e.1) (alter layer_order k (λ o. none) es)
    unfolding alter lookup
    erase-holds l k a[] h = a[]
    erase-holds l k (◌a∷◌ {x = e} {xs = es} p ps) h = go (layer_order k e.0) h (erase-holds l k ps)
      where
        go : (c : Ordering) → ((j : ℕ) → worth (λ v. value_reaches l v j)
            (pick c none (some e.1) (lookup layer_order k es)) < value_reaches l e.1 j + total (λ e. value_reaches l e.1 j) es
            → node_in m' j ≡ node_in m j)
            → (((j : ℕ) → worth (λ v. value_reaches l v j) (lookup layer_order k es) < total (λ e. value_reaches l e.1 j) es
            → node_in m' j ≡ node_in m j) → All (λ e. HoldsValue top hi m' l e.1) (alter layer_order k (λ o. none) es))
            → All (λ e. HoldsValue top hi m' l e.1) (pick c (e ∷ es) es (e ∷ alter layer_order k (λ o. none) es))
        go Ordering.lt h ih = values-framed l (value-framed l) h (p a∷ ps)
        go Ordering.eq h ih = values-framed l (value-framed l) (λ j g. h j (omega arith)) ps
        go Ordering.gt h ih = value-framed l e.1 (λ j g. h j (omega (arith, worth-le layer_order k (λ v. value_reaches l v j) es))) p
            a∷ ih (λ j g. h j (omega arith))
