-- The order of entries as the order of numbers: ikey and class are the two digits of a weight. Assumes nothing.
use Prim.Native.Nat.{ℕ, zero, suc, ◌+◌, ◌*◌, ◌≤◌, ◌<◌, compare, Ordering}
use mathlib.Core.Path.{◌≡◌, refl, sym, ap, ◌∙◌, subst}
use mathlib.Core.Bool.{true, false}
use mathlib.Core.List.{List, [], ◌∷◌}
use native.Mathlib.Nat.{not-suc-le-zero, le_of_suc-le-suc}
use native.Mathlib.Omega.{arith}
use native.Mathlib.Decide.{ℕ_discrete}
use lib.Dec.{compare_is_eq}
use lib.ListN.{length, get_or}
use Rattle.order.proofs.Compare.{Cmp, is_lt, is_eq, is_gt, cmp-view, compare-lt, compare-eq, compare-gt, compare-digits}
use Rattle.leaf_entries.specs.declared.Entry.{Entry}
use Rattle.leaf_entries.specs.Leaf.{none, rank, against, is_less, less, rising}
use Rattle.leaf_entries.proofs.Lists.{never, both, and_no}

-- ikey, then class, as one number
abbrev pub weight : Entry → ℕ
weight e = e.ikey * 10 + rank e

pub rank_lt : (e : Entry) → rank e < 10
rank_lt e = omega arith

-- ---- an ikey and a class against an entry

module _ (ikey class : ℕ) (small : class < 10) (e : Entry) where
  against-weight : against ikey class e ≡ compare (ikey * 10 + class) (weight e)
  against-weight = sym (compare-digits 10 ikey e.ikey class (rank e) small (rank_lt e))

  evidence : Cmp (ikey * 10 + class) (weight e) (against ikey class e)
  evidence = rw against-weight (cmp-view (ikey * 10 + class) (weight e))

  pub against-lt : against ikey class e ≡ Ordering.lt → ikey * 10 + class < weight e
  against-lt h = by (subst (Cmp (ikey * 10 + class) (weight e)) h evidence)
    where
      by : Cmp (ikey * 10 + class) (weight e) Ordering.lt → ikey * 10 + class < weight e
      by (is_lt l) = l

  pub against-eq : against ikey class e ≡ Ordering.eq → ikey * 10 + class ≡ weight e
  against-eq h = by (subst (Cmp (ikey * 10 + class) (weight e)) h evidence)
    where
      by : Cmp (ikey * 10 + class) (weight e) Ordering.eq → ikey * 10 + class ≡ weight e
      by (is_eq l) = l

  pub against-gt : against ikey class e ≡ Ordering.gt → weight e < ikey * 10 + class
  against-gt h = by (subst (Cmp (ikey * 10 + class) (weight e)) h evidence)
    where
      by : Cmp (ikey * 10 + class) (weight e) Ordering.gt → weight e < ikey * 10 + class
      by (is_gt l) = l

  pub lt-against : ikey * 10 + class < weight e → against ikey class e ≡ Ordering.lt
  lt-against h = against-weight ∙ compare-lt h

  pub eq-against : ikey * 10 + class ≡ weight e → against ikey class e ≡ Ordering.eq
  eq-against h = against-weight ∙ compare-eq h

  pub gt-against : weight e < ikey * 10 + class → against ikey class e ≡ Ordering.gt
  gt-against h = against-weight ∙ compare-gt h

-- ---- the tests of a comparison

pub is-less : {o : Ordering} → is_less o ≡ true → o ≡ Ordering.lt
is-less {o = Ordering.lt} e = refl
is-less {o = Ordering.eq} e = never (sym e)
is-less {o = Ordering.gt} e = never (sym e)

pub is-equal : {o : Ordering} → compare_is_eq o ≡ true → o ≡ Ordering.eq
is-equal {o = Ordering.lt} e = never (sym e)
is-equal {o = Ordering.eq} e = refl
is-equal {o = Ordering.gt} e = never (sym e)

module _ (e d : Entry) where
  pub less-weight : less e d ≡ true → weight e < weight d
  less-weight h = against-lt e.ikey (rank e) (rank_lt e) d (is-less h)

  pub weight-less : weight e < weight d → less e d ≡ true
  weight-less h = ap is_less (lt-against e.ikey (rank e) (rank_lt e) d h)

-- ---- strictly rising entries, by positions

abbrev pub weight_at : List Entry → ℕ → ℕ
weight_at es i = weight (get_or es i none)

rising-next : (es : List Entry) → rising es ≡ true → (i : ℕ) → suc i < length es → weight_at es i < weight_at es (suc i)
unfolding rising
rising-next [] r i h = absurd (not-suc-le-zero h)
rising-next (e ∷ []) r i h = absurd (omega arith)
rising-next (e ∷ d ∷ es) r zero h = less-weight e d (both {a = less e d} r).0
rising-next (e ∷ d ∷ es) r (suc i) h = rising-next (d ∷ es) (both {a = less e d} r).1 i (le_of_suc-le-suc h)

-- of two entries the one that stands before is less
pub rising-weights : (es : List Entry) → rising es ≡ true → (i j : ℕ) → i < j → j < length es → weight_at es i < weight_at es j
rising-weights es r i zero l h = absurd (not-suc-le-zero l)
rising-weights es r i (suc j) l h =
    elim (ℕ_discrete i j) [
      | yes e ↦ rw e (rising-next es r j h)
      | no e ↦ omega (arith, rising-weights es r i j (omega arith) (omega arith), rising-next es r j h)
    ]

-- entries each less than the next are rising
pub rising-if : (es : List Entry) → ((i : ℕ) → suc i < length es → weight_at es i < weight_at es (suc i)) → rising es ≡ true
unfolding rising
rising-if [] f = refl
rising-if (e ∷ []) f = refl
rising-if (e ∷ d ∷ es) f = rw (weight-less e d (f 0 (omega arith))) (rising-if (d ∷ es) (λ i h. f (suc i) (omega arith)))

-- two neighbours out of order
pub rising-not : (es : List Entry) (i : ℕ) → suc i < length es → less (get_or es i none) (get_or es (suc i) none) ≡ false → false ≡ rising es
unfolding rising
rising-not [] i h e = absurd (not-suc-le-zero h)
rising-not (x ∷ []) i h e = absurd (omega arith)
rising-not (x ∷ y ∷ es) zero h e = rw e
rising-not (x ∷ y ∷ es) (suc i) h e = rw (← rising-not (y ∷ es) i (le_of_suc-le-suc h) e) (and_no (less x y))

-- ---- a key among strictly rising entries

module _ (es : List Entry) (r : rising es ≡ true) (ikey class : ℕ) (small : class < 10) (i j : ℕ) (l : i ≤ j) (h : j < length es) where
  -- whatever follows a greater entry is greater
  pub all_above : against ikey class (get_or es i none) ≡ Ordering.lt → against ikey class (get_or es j none) ≡ Ordering.lt
  all_above e =
      elim (ℕ_discrete i j) [
        | yes q ↦ rw (← q) e
        | no q ↦
            let a = against-lt ikey class small (get_or es i none) e in
            lt-against ikey class small (get_or es j none) (omega (arith, rising-weights es r i j (omega arith) h))
      ]

  -- whatever comes before a lesser entry, or an equal one, is less
  pub all-below : i < j → weight_at es j ≤ ikey * 10 + class → against ikey class (get_or es i none) ≡ Ordering.gt
  all-below m e = gt-against ikey class small (get_or es i none) (omega (arith, rising-weights es r i j m h))
