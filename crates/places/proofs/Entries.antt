-- The search of a leaf's entries by ikey and class is a lookup in what they are seen as. Assumes nothing.
use mathlib.Core.Path.{◌≡◌, refl, sym, ap, ap₂, ◌∙◌, subst}
use mathlib.Core.Bool.{Bool, true, false, cond}
use mathlib.Core.List.{List, [], ◌∷◌, ◌++◌, map}
use mathlib.Core.Option.{Option, none, some}
use Prim.Native.Nat.compare
use Prim.Native.Nat.{ℕ, zero, suc, ◌≤◌, ◌<◌, compare, Ordering}
use native.Mathlib.Omega.{arith}
use lib.Dec.{eqb, ltb, compare_is_eq}
use lib.ListN.{length, get_or, take, drop}
use borrow.Author.Tests.{eqb-true, lt-ltb, le-ltb, ltb-true, ltb-false}
use Rattle.bank.specs.Lists.{here_or_later}
use Rattle.leaf_entries.specs.declared.Entry.{Entry}
use Rattle.leaf.specs.Lists.{first_where}
use Rattle.leaf.specs.Leaf as leaf
use Rattle.leaf.specs.Leaf.{rank, against}
use Rattle.leaf.specs.Search.{place_equal}
use Rattle.leaf.proofs.Lists.{first_passes}
use Rattle.leaf.proofs.Orders.{is-equal}
use Rattle.forest.specs.Trees as words
use Rattle.forest.specs.Trees.{seen_as}
use Rattle.order.specs.Bytes.{then}
use Rattle.order.specs.Map.{All, a[], ◌a∷◌, pick, alter, lookup, Sorted, s[], ◌s∷◌}
use Rattle.trees.specs.Nodes.{IkeyClass, layer_order}
use Rattle.trees.specs.Layers.{Pointer, cell, link}
use Rattle.trees.proofs.Nodes.{layer-order}
use Rattle.views.specs.Views.{entry_view}

-- one more on both sides
pub ltb-suc : (a b : ℕ) → ltb (suc a) (suc b) ≡ ltb a b
ltb-suc a b = go (ltb a b) (ltb-true a b) (ltb-false a b)
  where
    go : (t : Bool) → (t ≡ true → a < b) → (t ≡ false → b ≤ a) → ltb (suc a) (suc b) ≡ t
    go true f g = let h : a < b = f refl in lt-ltb (suc a) (suc b) (omega arith)
    go false f g = let h : b ≤ a = g refl in le-ltb (suc a) (suc b) (omega arith)

-- an entry as the trees have it
abbrev pub view : Entry → IkeyClass × Pointer
view e = entry_view (seen_as e)

abbrev pub view_all : List Entry → List (IkeyClass × Pointer)
view_all es = map (λ e. entry_view (seen_as e)) es

-- the class of an entry in the order is the one it is seen with
pub seen-class : (e : Entry) → (view e).0.1 ≤ 9 → (view e).0.1 ≡ rank e
unfolding seen_as
seen-class e = go (eqb e.class 10) (eqb-true e.class 10)
  where
    go : (b : Bool) → (b ≡ true → e.class ≡ 10)
        → (entry_view (cond b ((e.ikey, 9), words.link e.at) ((e.ikey, e.class), words.cell e.at))).0.1 ≤ 9
        → (entry_view (cond b ((e.ikey, 9), words.link e.at) ((e.ikey, e.class), words.cell e.at))).0.1 ≡ rank e
    go true f h = omega (arith, f refl)
    go false f h = omega arith

pub seen-ikey : (e : Entry) → (view e).0.0 ≡ suc e.ikey
unfolding seen_as
seen-ikey e = go (eqb e.class 10)
  where
    go : (b : Bool) → (entry_view (cond b ((e.ikey, 9), words.link e.at) ((e.ikey, e.class), words.cell e.at))).0.0
        ≡ suc e.ikey
    go true = refl
    go false = refl

-- a class of 0 to 9
abbrev pub Fine : Entry → Type 0
Fine e = (view e).0.1 ≤ 9

-- classes by what the entries are seen as
pub all-fine : (es : List Entry) → All (λ e. e.0.1 ≤ 9) (view_all es) → All Fine es
all-fine [] a[] = a[]
all-fine (e ∷ es) (h a∷ hs) = h a∷ all-fine es hs

-- what stands at a position, if it is one
abbrev pub at_place : List Entry → ℕ → Option Pointer
at_place es p = cond (ltb p (length es)) (some (view (get_or es p leaf.none)).1) none

-- an entry that is seen with a cell, or with a link
module _ (e : Entry) where
  pub seen-cell : (c : ℕ) → (view e).1 ≡ cell c → (eqb e.class 10 ≡ false) × (e.at ≡ c)
  unfolding seen_as
  seen-cell c = go (eqb e.class 10)
    where
      go : (b : Bool) → (entry_view (cond b ((e.ikey, 9), words.link e.at) ((e.ikey, e.class), words.cell e.at))).1 ≡ cell c
          → (b ≡ false) × (e.at ≡ c)
      go true q = let z : ◌≡◌ {A = ℕ} 0 1 = cc in absurd (omega arith)
      go false q = (refl, cc)

  pub seen-link : (r : ℕ) → (view e).1 ≡ link r → (eqb e.class 10 ≡ true) × (e.at ≡ r)
  unfolding seen_as
  seen-link r = go (eqb e.class 10)
    where
      go : (b : Bool) → (entry_view (cond b ((e.ikey, 9), words.link e.at) ((e.ikey, e.class), words.cell e.at))).1 ≡ link r
          → (b ≡ true) × (e.at ≡ r)
      go true q = (refl, cc)
      go false q = let z : ◌≡◌ {A = ℕ} 0 1 = cc in absurd (omega arith)

module _ (ikey class : ℕ) where
  abbrev sought : IkeyClass
  sought = (suc ikey, class)

  pub against-view : (e : Entry) → (view e).0.1 ≤ 9 → layer_order sought (view e).0 ≡ against ikey class e
  unfolding layer_order
  against-view e h =
      ap₂ (λ (a b : ℕ). then (compare (suc ikey) a) (compare class b)) (seen-ikey e) (seen-class e h)
      ∙ ap (λ (o : Ordering). then o (compare class (rank e))) (compare.suc-suc ikey e.ikey)

  all-later : (e : Entry) → layer_order sought (view e).0 ≡ Ordering.lt → {ds : List (IkeyClass × Pointer)}
      → All (λ d. layer_order (view e).0 d.0 ≡ Ordering.lt) ds
      → All (λ d. layer_order sought d.0 ≡ Ordering.lt) ds
  all-later e q a[] = a[]
  all-later e q (◌a∷◌ {x = d} p ps) = layer-order.trans sought (view e).0 d.0 q p a∷ all-later e q ps

  none_after : {es : List Entry} → All Fine es → All (λ d. layer_order sought d.0 ≡ Ordering.lt) (view_all es)
      → place_equal ikey class es ≡ length es
  unfolding first_where
  none_after a[] a[] = refl
  none_after (◌a∷◌ {x = e} f fs) (h a∷ hs) = rw (← against-view e f, h) (ap suc (none_after fs hs))

  pub place_view : {es : List Entry} → All Fine es → Sorted layer_order (view_all es)
      → lookup layer_order sought (view_all es) ≡ at_place es (place_equal ikey class es)
  unfolding lookup first_where
  place_view a[] s[] = refl
  place_view (◌a∷◌ {x = e} {xs = es} f fs) (h s∷ s) = rw (← against-view e f) (go (layer_order sought (view e).0) refl (place_view fs s))
    where
      shift : (p : ℕ) → at_place es p ≡ at_place (e ∷ es) (suc p)
      shift p = ap (λ (b : Bool). cond b (some (view (get_or es p leaf.none)).1) none) (sym (ltb-suc p (length es)))

      go : (o : Ordering) → layer_order sought (view e).0 ≡ o
          → lookup layer_order sought (view_all es) ≡ at_place es (place_equal ikey class es)
          → pick o none (some (view e).1) (lookup layer_order sought (view_all es))
          ≡ at_place (e ∷ es) (here_or_later (compare_is_eq o) (place_equal ikey class es))
      go Ordering.lt q ih =
          let z = none_after fs (all-later e q h) in
          rw z (rw (le-ltb (suc (length es)) (suc (length es)) (omega arith)) refl)
      go Ordering.eq q ih = rw (lt-ltb 0 (suc (length es)) (omega arith))
      go Ordering.gt q ih = ih ∙ shift (place_equal ikey class es)

  -- the entry there has this ikey and class
  pub place-there : (es : List Entry) → All Fine es → place_equal ikey class es < length es
      → (view (get_or es (place_equal ikey class es) leaf.none)).0 ≡ sought
  place-there es fs h =
      let p = place_equal ikey class es in
      let e = get_or es p leaf.none in
      sym (layer-order.exact sought (view e).0 (against-view e (all-at es p fs h)
      ∙ is-equal (first_passes (λ e. compare_is_eq (against ikey class e)) leaf.none es h)))
    where
      all-at : (es : List Entry) (p : ℕ) → All Fine es → p < length es → Fine (get_or es p leaf.none)
      all-at [] p a[] h = absurd (omega arith)
      all-at (e ∷ es) zero (f a∷ fs) h = f
      all-at (e ∷ es) (suc p) (f a∷ fs) h = all-at es p fs (omega arith)

  -- without the entry there, where there is one
  pub alter-taken : {es : List Entry} → All Fine es → Sorted layer_order (view_all es) → place_equal ikey class es < length es
      → alter layer_order sought (λ (o : Option Pointer). none) (view_all es)
      ≡ view_all (take (place_equal ikey class es) es ++ drop (suc (place_equal ikey class es)) es)
  unfolding alter first_where
  alter-taken a[] s[] l = absurd (omega arith)
  alter-taken (◌a∷◌ {x = e} {xs = es} f fs) (h s∷ s) l =
      rw (← against-view e f) (go (layer_order sought (view e).0) refl
      (subst (λ (o : Ordering). here_or_later (compare_is_eq o) (place_equal ikey class es) < suc (length es)) (sym (against-view e f)) l)
      (alter-taken fs s))
    where
      go : (o : Ordering) → layer_order sought (view e).0 ≡ o → here_or_later (compare_is_eq o) (place_equal ikey class es) < suc (length es)
          → (place_equal ikey class es < length es
          → alter layer_order sought (λ (o : Option Pointer). none) (view_all es)
          ≡ view_all (take (place_equal ikey class es) es ++ drop (suc (place_equal ikey class es)) es))
          → pick o (view e ∷ view_all es) (view_all es) (view e ∷ alter layer_order sought (λ (o : Option Pointer). none) (view_all es))
          ≡ view_all (take (here_or_later (compare_is_eq o) (place_equal ikey class es)) (e ∷ es) ++ drop
          (suc (here_or_later (compare_is_eq o) (place_equal ikey class es))) (e ∷ es))
      go Ordering.lt q l ih = absurd (omega (arith, none_after fs (all-later e q h)))
      go Ordering.eq q l ih = refl
      go Ordering.gt q l ih = ap (λ (xs : List (IkeyClass × Pointer)). view e ∷ xs) (ih (omega arith))
