-- There is a cut: at most ten entries share an ikey. Assumes nothing.
use mathlib.Core.Bool.{Bool, true, false, cond, not}
use mathlib.Core.List.{List, [], ◌∷◌}
use mathlib.Core.Logic.{◌⊎◌, inl, inr}
use mathlib.Core.Path.{◌≡◌, subst}
use Prim.Native.Nat.{ℕ, ◌≤◌, ◌<◌, Ordering, zero, suc, ◌+◌}
use native.Mathlib.Omega.{arith}
use lib.Arith.{lt_of_le-ne}
use lib.Dec.{eqb, eqb_refl, T, eqb→eq, T_not}
use lib.ListN.{length, take, drop}
use Rattle.order.specs.Bytes.{then}
use Rattle.order.specs.Map.{All, a[], ◌a∷◌, Sorted, ◌s∷◌}
use Rattle.order.proofs.Compare.{Cmp, is_lt, is_eq, is_gt, cmp-view}
use Rattle.trees.specs.Nodes.{IkeyClass, layer_order}
use Rattle.trees.specs.TreePut.{low_of_entries, GoodCut}
use Rattle.trees.specs.Cut.{first_passing, outward_from_eight, ikeys_differ, cut_place}
use Rattle.trees.proofs.Nodes.{layer_order-le}

first_passing-or : (p : ℕ → Bool) {P : ℕ → Type 0} (z : ℕ) {cs : List ℕ} → All P cs
    → (T (p (first_passing p z cs)) × P (first_passing p z cs)) ⊎ All (λ c. T (not (p c))) cs
first_passing-or p z a[] = inr a[]
first_passing-or p {P} z (◌a∷◌ {x = c} {xs = cs} q qs) = go (p c) (λ t. t) (λ t. t) (first_passing-or p z qs)
  where
    go : (b : Bool) → (T b → T (p c)) → (T (not b) → T (not (p c)))
        → (T (p (first_passing p z cs)) × P (first_passing p z cs)) ⊎ All (λ c. T (not (p c))) cs
        → (T (p (cond b c (first_passing p z cs))) × P (cond b c (first_passing p z cs))) ⊎ All (λ c. T (not (p c))) (c ∷ cs)
    go true f g r = inl (f tt, q)
    go false f g (inl r) = inl r
    go false f g (inr r) = inr (g tt a∷ r)

all-outward : (P : ℕ → Type 0) → All P outward_from_eight → (c : ℕ) → 1 ≤ c → c ≤ 15 → P c
all-outward P (p8 a∷ p7 a∷ p9 a∷ p6 a∷ p10 a∷ p5 a∷ p11 a∷ p4 a∷ p12 a∷ p3 a∷ p13 a∷ p2 a∷ p14 a∷ p1 a∷ p15 a∷ a[]) zero h k =
    absurd (omega arith)
all-outward P (p8 a∷ p7 a∷ p9 a∷ p6 a∷ p10 a∷ p5 a∷ p11 a∷ p4 a∷ p12 a∷ p3 a∷ p13 a∷ p2 a∷ p14 a∷ p1 a∷ p15 a∷ a[]) (suc zero) h k = p1
all-outward P (p8 a∷ p7 a∷ p9 a∷ p6 a∷ p10 a∷ p5 a∷ p11 a∷ p4 a∷ p12 a∷ p3 a∷ p13 a∷ p2 a∷ p14 a∷ p1 a∷ p15 a∷ a[]) (suc (suc zero)) h k =
    p2
all-outward P (p8 a∷ p7 a∷ p9 a∷ p6 a∷ p10 a∷ p5 a∷ p11 a∷ p4 a∷ p12 a∷ p3 a∷ p13 a∷ p2 a∷ p14 a∷ p1 a∷ p15 a∷ a[])
    (suc (suc (suc zero))) h k = p3
all-outward P (p8 a∷ p7 a∷ p9 a∷ p6 a∷ p10 a∷ p5 a∷ p11 a∷ p4 a∷ p12 a∷ p3 a∷ p13 a∷ p2 a∷ p14 a∷ p1 a∷ p15 a∷ a[])
    (suc (suc (suc (suc zero)))) h k = p4
all-outward P (p8 a∷ p7 a∷ p9 a∷ p6 a∷ p10 a∷ p5 a∷ p11 a∷ p4 a∷ p12 a∷ p3 a∷ p13 a∷ p2 a∷ p14 a∷ p1 a∷ p15 a∷ a[])
    (suc (suc (suc (suc (suc zero))))) h k = p5
all-outward P (p8 a∷ p7 a∷ p9 a∷ p6 a∷ p10 a∷ p5 a∷ p11 a∷ p4 a∷ p12 a∷ p3 a∷ p13 a∷ p2 a∷ p14 a∷ p1 a∷ p15 a∷ a[])
    (suc (suc (suc (suc (suc (suc zero)))))) h k = p6
all-outward P (p8 a∷ p7 a∷ p9 a∷ p6 a∷ p10 a∷ p5 a∷ p11 a∷ p4 a∷ p12 a∷ p3 a∷ p13 a∷ p2 a∷ p14 a∷ p1 a∷ p15 a∷ a[])
    (suc (suc (suc (suc (suc (suc (suc zero))))))) h k = p7
all-outward P (p8 a∷ p7 a∷ p9 a∷ p6 a∷ p10 a∷ p5 a∷ p11 a∷ p4 a∷ p12 a∷ p3 a∷ p13 a∷ p2 a∷ p14 a∷ p1 a∷ p15 a∷ a[])
    (suc (suc (suc (suc (suc (suc (suc (suc zero)))))))) h k = p8
all-outward P (p8 a∷ p7 a∷ p9 a∷ p6 a∷ p10 a∷ p5 a∷ p11 a∷ p4 a∷ p12 a∷ p3 a∷ p13 a∷ p2 a∷ p14 a∷ p1 a∷ p15 a∷ a[])
    (suc (suc (suc (suc (suc (suc (suc (suc (suc zero))))))))) h k = p9
all-outward P (p8 a∷ p7 a∷ p9 a∷ p6 a∷ p10 a∷ p5 a∷ p11 a∷ p4 a∷ p12 a∷ p3 a∷ p13 a∷ p2 a∷ p14 a∷ p1 a∷ p15 a∷ a[])
    (suc (suc (suc (suc (suc (suc (suc (suc (suc (suc zero)))))))))) h k = p10
all-outward P (p8 a∷ p7 a∷ p9 a∷ p6 a∷ p10 a∷ p5 a∷ p11 a∷ p4 a∷ p12 a∷ p3 a∷ p13 a∷ p2 a∷ p14 a∷ p1 a∷ p15 a∷ a[])
    (suc (suc (suc (suc (suc (suc (suc (suc (suc (suc (suc zero))))))))))) h k = p11
all-outward P (p8 a∷ p7 a∷ p9 a∷ p6 a∷ p10 a∷ p5 a∷ p11 a∷ p4 a∷ p12 a∷ p3 a∷ p13 a∷ p2 a∷ p14 a∷ p1 a∷ p15 a∷ a[])
    (suc (suc (suc (suc (suc (suc (suc (suc (suc (suc (suc (suc zero)))))))))))) h k = p12
all-outward P (p8 a∷ p7 a∷ p9 a∷ p6 a∷ p10 a∷ p5 a∷ p11 a∷ p4 a∷ p12 a∷ p3 a∷ p13 a∷ p2 a∷ p14 a∷ p1 a∷ p15 a∷ a[])
    (suc (suc (suc (suc (suc (suc (suc (suc (suc (suc (suc (suc (suc zero))))))))))))) h k = p13
all-outward P (p8 a∷ p7 a∷ p9 a∷ p6 a∷ p10 a∷ p5 a∷ p11 a∷ p4 a∷ p12 a∷ p3 a∷ p13 a∷ p2 a∷ p14 a∷ p1 a∷ p15 a∷ a[])
    (suc (suc (suc (suc (suc (suc (suc (suc (suc (suc (suc (suc (suc (suc zero)))))))))))))) h k = p14
all-outward P (p8 a∷ p7 a∷ p9 a∷ p6 a∷ p10 a∷ p5 a∷ p11 a∷ p4 a∷ p12 a∷ p3 a∷ p13 a∷ p2 a∷ p14 a∷ p1 a∷ p15 a∷ a[])
    (suc (suc (suc (suc (suc (suc (suc (suc (suc (suc (suc (suc (suc (suc (suc zero))))))))))))))) h k = p15
all-outward P (p8 a∷ p7 a∷ p9 a∷ p6 a∷ p10 a∷ p5 a∷ p11 a∷ p4 a∷ p12 a∷ p3 a∷ p13 a∷ p2 a∷ p14 a∷ p1 a∷ p15 a∷ a[])
    (suc (suc (suc (suc (suc (suc (suc (suc (suc (suc (suc (suc (suc (suc (suc (suc c)))))))))))))))) h k = absurd (omega arith)

class-lt : (a b : IkeyClass) → layer_order a b ≡ Ordering.lt → a.0 ≡ b.0 → a.1 < b.1
unfolding layer_order
class-lt a b e h = go (cmp-view a.0 b.0) (cmp-view a.1 b.1) e
  where
    go : {o p : Ordering} → Cmp a.0 b.0 o → Cmp a.1 b.1 p → then o p ≡ Ordering.lt → a.1 < b.1
    go (is_lt x) q e = absurd (omega arith)
    go (is_eq x) (is_lt y) e = y
    go (is_eq x) (is_eq y) e = let z : ◌≡◌ {A = ℕ} 0 1 = cc in absurd (omega arith)
    go (is_eq x) (is_gt y) e = let z : ◌≡◌ {A = ℕ} 0 1 = cc in absurd (omega arith)
    go (is_gt x) q e = absurd (omega arith)

not-not : (b : Bool) → T (not (not b)) → T b
not-not true t = t
not-not false t = t

module _ {W : Type 0} where
  -- entries of one ikey: at most ten
  one-ikey-run : (e : IkeyClass × W) (es : List (IkeyClass × W)) → Sorted layer_order (e ∷ es) → All (λ d. d.0.1 ≤ 9) (e ∷ es)
      → ((i : ℕ) → i < length es → low_of_entries (drop i (e ∷ es)) ≡ low_of_entries (drop i es)) → e.0.1 + length es ≤ 9
  one-ikey-run e [] s (p a∷ ps) h = omega arith
  one-ikey-run e (d ∷ es) ((x a∷ xs) s∷ s) (p a∷ ps) h =
      omega (arith, class-lt e.0 d.0 x (h 0 (omega arith)), one-ikey-run d es s ps (λ i k. h (suc i) (omega arith)))

  apart-at : (i : ℕ) (es : List (IkeyClass × W)) → Sorted layer_order es → suc i < length es
      → low_of_entries (drop i es) < low_of_entries (drop (suc i) es) → All (λ e. e.0.0 < low_of_entries (drop (suc i) es)) (take (suc i) es)
  apart-at i [] s h k = absurd (omega arith)
  apart-at zero (e ∷ es) s h k = k a∷ a[]
  apart-at (suc i) (e ∷ []) s h k = absurd (omega arith)
  apart-at (suc i) (e ∷ d ∷ es) ((x a∷ xs) s∷ s) h k = go (apart-at i (d ∷ es) s (omega arith) k)
    where
      go : All (λ e. e.0.0 < low_of_entries (drop i es)) (d ∷ take i es) → All (λ e. e.0.0 < low_of_entries (drop i es)) (e ∷ d ∷ take i es)
      go (q a∷ qs) = let z : e.0.0 < low_of_entries (drop i es) = omega (arith, layer_order-le e.0 d.0 x) in z a∷ q a∷ qs

  low-le : (i : ℕ) (es : List (IkeyClass × W)) → Sorted layer_order es → suc i < length es
      → low_of_entries (drop i es) ≤ low_of_entries (drop (suc i) es)
  low-le i [] s h = absurd (omega arith)
  low-le zero (e ∷ []) s h = absurd (omega arith)
  low-le zero (e ∷ d ∷ es) ((x a∷ xs) s∷ s) h = layer_order-le e.0 d.0 x
  low-le (suc i) (e ∷ es) (x s∷ s) h = low-le i es s (omega arith)

  pub cut-exists : (mid : ℕ) (es : List (IkeyClass × W)) → Sorted layer_order es → All (λ e. e.0.1 ≤ 9) es → length es ≡ 16
      → GoodCut W 15 mid cut_place es
  unfolding cut_place
  cut-exists mid es s cs len = go (first_passing-or (ikeys_differ es) {P = λ c. (1 ≤ c) × (c ≤ 15)} 8 {cs = outward_from_eight}
      ((omega arith, omega arith) a∷ (omega arith, omega arith) a∷ (omega arith, omega arith) a∷ (omega arith, omega arith)
      a∷ (omega arith, omega arith) a∷ (omega arith, omega arith) a∷ (omega arith, omega arith) a∷ (omega arith, omega arith)
      a∷ (omega arith, omega arith) a∷ (omega arith, omega arith) a∷ (omega arith, omega arith) a∷ (omega arith, omega arith)
      a∷ (omega arith, omega arith) a∷ (omega arith, omega arith) a∷ (omega arith, omega arith) a∷ a[]))
    where
      found : (c : ℕ) → 1 ≤ c → c ≤ 15 → T (ikeys_differ es c) → All (λ e. e.0.0 < low_of_entries (drop c es)) (take c es)
      found zero h k t = absurd (omega arith)
      found (suc i) h k t = apart-at i es s (omega arith)
          (lt_of_le-ne (low-le i es s (omega arith)) (λ q. T_not (eqb (low_of_entries (drop i es)) (low_of_entries (drop (suc i) es))) t
          (subst (λ x. T (eqb (low_of_entries (drop i es)) x)) q (eqb_refl (low_of_entries (drop i es))))))

      none_of : (es : List (IkeyClass × W)) → Sorted layer_order es → All (λ e. e.0.1 ≤ 9) es → length es ≡ 16
          → All (λ c. T (not (ikeys_differ es c))) outward_from_eight → ⊥
      none_of [] s cs len a = omega arith
      none_of (e ∷ es) s cs len a =
          let r = one-ikey-run e es s cs (λ i k. eqb→eq (low_of_entries (drop i (e ∷ es))) (low_of_entries (drop i es))
          (not-not (eqb (low_of_entries (drop i (e ∷ es))) (low_of_entries (drop i es)))
          (all-outward (λ c. T (not (ikeys_differ (e ∷ es) c))) a (suc i) (omega arith) (omega arith)))) in omega arith

      go : (T (ikeys_differ es (first_passing (ikeys_differ es) 8 outward_from_eight))
          × ((1 ≤ first_passing (ikeys_differ es) 8 outward_from_eight) × (first_passing (ikeys_differ es) 8 outward_from_eight ≤ 15)))
          ⊎ All (λ c. T (not (ikeys_differ es c))) outward_from_eight
          → GoodCut W 15 mid cut_place es
      go (inl t) = record { some_left = t.1.0; some_right = t.1.1; apart = found _ t.1.0 t.1.1 t.0 }
      go (inr a) = absurd (none_of es s cs len a)
