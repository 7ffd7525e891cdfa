-- How often a number stands in a list; the slots of a bank that holds each once. Assumes nothing.
use mathlib.Core.Path.{◌≡◌, refl, sym, ap, ◌∙◌, subst}
use mathlib.Core.Bool.{Bool, true, false}
use mathlib.Core.List.{List, [], ◌∷◌, ◌++◌}
use Prim.Native.Nat.{ℕ, zero, suc, ◌+◌, ◌≤◌, ◌<◌}
use native.Mathlib.Nat.{not-suc-le-zero, le_of_suc-le-suc, suc-add, zero-add}
use native.Mathlib.Omega.{arith}
use native.Mathlib.Decide.{ℕ_discrete}
use lib.ListN.{length, get_or}
use lib.Dec.{T, eqb, eqb→eq}
use borrow.Author.Tests.{eq-eqb, ne_eqb}
use Rattle.bank.specs.Lists.{count, one_more_if, each_once, place_of}
use Rattle.bank.proofs.Tests.{at, all-at, equal}

pub count_none : (s : ℕ) → count s [] ≡ 0
unfolding count
count_none s = refl

pub count_same : (p : ℕ) (ps : List ℕ) → count p (p ∷ ps) ≡ suc (count p ps)
unfolding count
count_same p ps = rw (eq-eqb p p refl)

pub count-other : (p s : ℕ) (ps : List ℕ) → (p ≡ s → ⊥) → count s (p ∷ ps) ≡ count s ps
unfolding count
count-other p s ps h = rw (ne_eqb p s h)

pub count-append : (s : ℕ) (xs ys : List ℕ) → count s (xs ++ ys) ≡ count s xs + count s ys
unfolding count
count-append s [] ys = sym (zero-add (count s ys))
count-append s (x ∷ xs) ys = more (eqb x s) (count-append s xs ys)
  where
    more : (b : Bool) → count s (xs ++ ys) ≡ count s xs + count s ys
        → one_more_if b (count s (xs ++ ys)) ≡ one_more_if b (count s xs) + count s ys
    more true e = ap suc e ∙ sym (suc-add (count s xs) (count s ys))
    more false e = e

-- a number more stands in front: no count falls, and each grows by one at most
pub count-grows : (s p : ℕ) (ps : List ℕ) → count s ps ≤ count s (p ∷ ps)
count-grows s p ps =
    elim (ℕ_discrete p s) [
      | yes e ↦ subst (λ (x : ℕ). count x ps ≤ count x (p ∷ ps)) e (omega (arith, count_same p ps))
      | no e ↦ omega (arith, count-other p s ps e)
    ]

pub count_at : (ps : List ℕ) (i : ℕ) → i < length ps → 1 ≤ count (get_or ps i 0) ps
count_at [] i h = absurd (not-suc-le-zero h)
count_at (p ∷ ps) zero h = omega (arith, count_same p ps)
count_at (p ∷ ps) (suc i) h =
    omega (arith, count_at ps i (le_of_suc-le-suc h), count-grows (get_or ps i 0) p ps)

-- ---- as many numbers as there are places: where none is missing, none stands twice

-- the counts of the numbers below n, added up
total : ℕ → List ℕ → ℕ
total zero ps = zero
total (suc n) ps = count n ps + total n ps

total-none : (n : ℕ) → total n [] ≡ 0
unfolding total
total-none zero = refl
total-none (suc n) = omega (arith, count_none n, total-none n)

-- a number in front counts once below n, or not at all
total-out : (n p : ℕ) (ps : List ℕ) → n ≤ p → total n (p ∷ ps) ≡ total n ps
unfolding total
total-out zero p ps h = refl
total-out (suc n) p ps h =
    omega (arith, count-other p n ps (λ e. omega arith), total-out n p ps (omega arith))

total-in : (n p : ℕ) (ps : List ℕ) → total n (p ∷ ps) ≤ total n ps + 1
unfolding total
total-in zero p ps = omega arith
total-in (suc n) p ps =
    elim (ℕ_discrete p n) [
      | yes e ↦
          let same : count n (p ∷ ps) ≡ suc (count n ps) = subst (λ (x : ℕ). count x (p ∷ ps) ≡ suc (count x ps)) e (count_same p ps) in
          omega (arith, total-out n p ps (omega arith))
      | no e ↦ omega (arith, count-other p n ps e, total-in n p ps)
    ]

-- a number from n on takes a place of its own
total-le : (n p : ℕ) (ps : List ℕ) → n ≤ p → total n ps + count p ps ≤ length ps
total-le n p [] h = omega (arith, total-none n, count_none p)
total-le n p (q ∷ ps) h =
    elim (ℕ_discrete q p) [
      | yes e ↦
          let same : count p (q ∷ ps) ≡ suc (count p ps) = subst (λ (x : ℕ). count x (q ∷ ps) ≡ suc (count x ps)) e (count_same q ps) in
          omega (arith, total-out n q ps (omega arith), total-le n p ps h)
      | no e ↦ omega (arith, count-other q p ps e, total-in n q ps, total-le n p ps h)
    ]

module _ (ps : List ℕ) where
  total-all : (n : ℕ) → ((s : ℕ) → s < n → 1 ≤ count s ps) → n ≤ total n ps
  unfolding total
  total-all zero h = omega arith
  total-all (suc n) h = omega (arith, h n (omega arith), total-all n (λ s l. h s (omega arith)))

  total-one : (n k : ℕ) → k < n → ((s : ℕ) → s < n → 1 ≤ count s ps) → n + count k ps ≤ total n ps + 1
  unfolding total
  total-one zero k l h = absurd (not-suc-le-zero l)
  total-one (suc n) k l h =
      elim (ℕ_discrete k n) [
        | yes e ↦
            let same : count k ps ≡ count n ps = ap (λ (x : ℕ). count x ps) e in
            omega (arith, total-all n (λ s m. h s (omega arith)))
        | no e ↦ omega (arith, h n (omega arith), total-one n k (omega arith) (λ s m. h s (omega arith)))
      ]

  -- none is missing, so each stands once
  pub once-if-all : ((s : ℕ) → s < length ps → 1 ≤ count s ps) → T (each_once ps)
  unfolding each_once
  once-if-all h =
      all-at (length ps) (λ s. eqb (count s ps) 1)
      (λ k l. equal (let e : count k ps ≡ 1 = omega (
        arith,
        h k l,
        total-one (length ps) k l h,
        total-le (length ps)
            (length ps) ps (omega arith),
      ) in e))

  module _ (t : T (each_once ps)) where
    pub once : (s : ℕ) → s < length ps → count s ps ≡ 1
    unfolding each_once
    once s h = eqb→eq (count s ps) 1 (at (length ps) (λ k. eqb (count k ps) 1) t s h)

    -- nothing but 0 to W-1 stands there
    pub none-beyond : (p : ℕ) → length ps ≤ p → count p ps ≡ 0
    none-beyond p h =
        omega (arith, total-all (length ps) (λ s l. let e : 1 ≤ count s ps = omega (arith, once s l) in e), total-le (length ps) p ps h)

    pub slot_lt : (i : ℕ) → i < length ps → get_or ps i 0 < length ps
    slot_lt i h =
        elim (native.Mathlib.Decide.dec_lt (get_or ps i 0) (length ps)) [
          | yes l ↦ l
          | no l ↦ absurd (omega (arith, count_at ps i h, none-beyond (get_or ps i 0) (omega arith)))
        ]

-- ---- the place of a number

-- what the place of a number is, where it has one
pub place_found : (s : ℕ) (ps : List ℕ) → place_of s ps < length ps → get_or ps (place_of s ps) 0 ≡ s
unfolding place_of
place_found s [] h = absurd (not-suc-le-zero h)
place_found s (p ∷ ps) h =
    elim (ℕ_discrete p s) [
      | yes e ↦ rw (eq-eqb p s e) e
      | no e ↦ rw (ne_eqb p s e) (place_found s ps (le_of_suc-le-suc (rw (ne_eqb p s e) at h)))
    ]

-- the first place that holds it
pub place_at : (s : ℕ) (ps : List ℕ) (i : ℕ) → i < length ps → ((k : ℕ) → k < i → get_or ps k 0 ≡ s → ⊥)
    → get_or ps i 0 ≡ s → i ≡ place_of s ps
unfolding place_of
place_at s [] i h f e = absurd (not-suc-le-zero h)
place_at s (p ∷ ps) zero h f e = rw (eq-eqb p s e)
place_at s (p ∷ ps) (suc i) h f e =
    rw (ne_eqb p s (f 0 (omega arith))) (ap suc (place_at s ps i (le_of_suc-le-suc h) (λ k l. f (suc k) (omega arith)) e))

pub place_none : (s : ℕ) (ps : List ℕ) → ((k : ℕ) → k < length ps → get_or ps k 0 ≡ s → ⊥) → length ps ≡ place_of s ps
unfolding place_of
place_none s [] f = refl
place_none s (p ∷ ps) f =
    rw (ne_eqb p s (f 0 (omega arith))) (ap suc (place_none s ps (λ k l. f (suc k) (omega arith))))
