-- Strictly rising entries stay so: parts of them, and after an insertion where the entry belongs, a removal, or a replacement by an entry
-- of the same ikey and class. Assumes nothing.
use Prim.Native.Nat.{ℕ, zero, suc, ◌+◌, ◌≤◌, ◌<◌}
use mathlib.Core.Path.{◌≡◌, refl}
use mathlib.Core.Bool.{true}
use mathlib.Core.List.{List, [], ◌∷◌, ◌++◌}
use native.Mathlib.Omega.{arith}
use lib.ListN.{length, get_or, take, drop, length-drop}
use lib.Seq.{length-take-le, get_or-take, get_or-drop}
use Rattle.leaf_entries.specs.declared.Entry.{Entry}
use Rattle.leaf.specs.Leaf.{none, rank, less, rising}
use Rattle.leaf.specs.Search.{Belongs}
use Rattle.leaf.proofs.Lists.{both}
use Rattle.leaf.proofs.Orders.{weight, weight_at, rank_lt, weight-less, against-gt, against-lt, rising-weights, rising-if}

-- two rising lists, the first below the second
rising-join : (xs ys : List Entry) → rising xs ≡ true → rising ys ≡ true
    → ((i j : ℕ) → i < length xs → j < length ys → weight_at xs i < weight_at ys j) → rising (xs ++ ys) ≡ true
unfolding rising
rising-join [] ys r s f = s
rising-join (x ∷ []) [] r s f = refl
rising-join (x ∷ []) (y ∷ ys) r s f = rw (weight-less x y (f 0 0 (omega arith) (omega arith))) s
rising-join (x ∷ w ∷ xs) ys r s f =
    rw (both {a = less x w} r).0
    (rising-join (w ∷ xs) ys (both {a = less x w} r).1 s (λ i j l h. f (suc i) j (omega arith) h))

module _ (es : List Entry) (r : rising es ≡ true) where
  -- ---- parts

  pub take-rises : (c : ℕ) → c ≤ length es → rising (take c es) ≡ true
  take-rises c h =
      rising-if (take c es) (λ i l.
      let n = length-take-le c es h in
      rw (get_or-take c es i none (omega arith), get_or-take c es (suc i) none (omega arith))
      (rising-weights es r i (suc i) (omega arith) (omega arith)))

  pub drop-rises : (c : ℕ) → rising (drop c es) ≡ true
  drop-rises c =
      rising-if (drop c es) (λ i l.
      let n = length-drop c es in
      rw (get_or-drop c es i none, get_or-drop c es (suc i) none) (rising-weights es r (c + i) (c + suc i) (omega arith) (omega arith)))

  -- ---- one entry more, one less, one instead of another

  -- an entry between two parts, above the one and below the other
  between-rises : (c d : ℕ) (e : Entry) → c ≤ d → c ≤ length es → ((i : ℕ) → i < c → weight_at es i < weight e)
      → ((j : ℕ) → d ≤ j → j < length es → weight e < weight_at es j) → rising (take c es ++ e ∷ drop d es) ≡ true
  unfolding rising
  between-rises c d e l h below above =
      rising-join (take c es) (e ∷ drop d es) (take-rises c h)
      (rising-join (e ∷ []) (drop d es) refl (drop-rises d) (λ i j u v. from i j u v))
      across
    where
      from : (i j : ℕ) → i < 1 → j < length (drop d es) → weight_at (e ∷ []) i < weight_at (drop d es) j
      from zero j u v = let n = length-drop d es in rw (get_or-drop d es j none) (above (d + j) (omega arith) (omega arith))
      from (suc i) j u v = absurd (omega arith)

      across : (i j : ℕ) → i < length (take c es) → j < length (e ∷ drop d es) → weight_at (take c es) i < weight_at (e ∷ drop d es) j
      across i zero u v = let n = length-take-le c es h in rw (get_or-take c es i none (omega arith)) (below i (omega arith))
      across i (suc j) u v =
          let n = length-take-le c es h in
          let m = length-drop d es in
          rw (get_or-take c es i none (omega arith), get_or-drop d es j none) (rising-weights es r i (d + j) (omega arith) (omega arith))

  pub inserted-rises : (p : ℕ) (e : Entry) → Belongs e.ikey (rank e) es p → rising (take p es ++ e ∷ drop p es) ≡ true
  inserted-rises p e b =
      between-rises p p e (omega arith) b.within
      (λ i l. against-gt e.ikey (rank e) (rank_lt e) (get_or es i none) (b.before i l))
      (λ j l h. against-lt e.ikey (rank e) (rank_lt e) (get_or es j none) (b.after j l h))

  pub replaced-rises : (i : ℕ) (e : Entry) → i < length es → e.ikey ≡ (get_or es i none).ikey → rank e ≡ rank (get_or es i none)
      → rising (take i es ++ e ∷ drop (suc i) es) ≡ true
  replaced-rises i e h k c =
      let same : weight e ≡ weight_at es i = omega arith in
      between-rises i (suc i) e (omega arith) (omega arith)
      (λ j l. omega (arith, rising-weights es r j i l h))
      (λ j l m. omega (arith, rising-weights es r i j l m))

  pub removed-rises : (i : ℕ) → i < length es → rising (take i es ++ drop (i + 1) es) ≡ true
  removed-rises i h =
      rising-join (take i es) (drop (i + 1) es) (take-rises i (omega arith)) (drop-rises (i + 1))
      (λ j k u v.
      let n = length-take-le i es (omega arith) in
      let m = length-drop (i + 1) es in
      rw (get_or-take i es j none (omega arith), get_or-drop (i + 1) es k none) (rising-weights es r j (i + 1 + k) (omega arith) (omega arith)))
