-- A list with one more: what stands where, and when it is strictly rising. Assumes nothing.
use mathlib.Core.Path.{◌≡◌, subst, ◌∙◌, ap}
use mathlib.Core.Bool.{false}
use mathlib.Core.List.{List, ◌∷◌, ◌++◌}
use Prim.Native.Nat.{ℕ, zero, suc, ◌+◌, ◌-◌, ◌≤◌, ◌<◌}
use native.Mathlib.Omega.{arith}
use native.Mathlib.Decide.{ℕ_discrete, dec_lt}
use lib.Dec.{T}
use lib.ListN.{length, get_or, take, drop, length-take, length-drop, length-append, get_or-append}
use lib.Seq.{get_or-take, get_or-drop, get_or-append-add, get_or_at, length-take-le}
use Rattle.internode_places.specs.Lists.{rising, inserted_at}
use Rattle.internode_places.proofs.Rising.{rising-next, rising-all, is_false}

-- ---- what stands where

module _ (p v : ℕ) (xs : List ℕ) (h : p ≤ length xs) where
  front : length (take p xs) ≡ p
  front = length-take-le p xs h

  pub inserted-length : length (inserted_at p v xs) ≡ suc (length xs)
  unfolding inserted_at
  inserted-length = simp (length-append, length-drop, length-take) (omega arith)

  pub inserted-before : (i : ℕ) → i < p → get_or (inserted_at p v xs) i 0 ≡ get_or xs i 0
  unfolding inserted_at
  inserted-before i l = get_or-append (take p xs) (v ∷ drop p xs) 0 i (omega (arith, front)) ∙ get_or-take p xs i 0 l

  pub inserted-here : get_or (inserted_at p v xs) p 0 ≡ v
  unfolding inserted_at
  inserted-here = get_or_at (take p xs) v (drop p xs) 0 p front

  pub inserted-after : (i : ℕ) → p ≤ i → get_or (inserted_at p v xs) (suc i) 0 ≡ get_or xs i 0
  unfolding inserted_at
  inserted-after i l =
      let e : suc i ≡ length (take p xs) + suc (i - p) = omega (arith, front) in
      let d : p + (i - p) ≡ i = omega arith in
      ap (λ (k : ℕ). get_or (take p xs ++ v ∷ drop p xs) k 0) e
      ∙ get_or-append-add (take p xs) (v ∷ drop p xs) (suc (i - p)) 0
      ∙ get_or-drop p xs (i - p) 0
      ∙ ap (λ (k : ℕ). get_or xs k 0) d

-- ---- when it is strictly rising

module _ (p v : ℕ) (ks : List ℕ) (h : p ≤ length ks) where
  -- the one before is not below
  pub insert-low : 0 < p → v ≤ get_or ks (p - 1) 0 → rising (inserted_at p v ks) ≡ false
  insert-low z l =
      is_false (rising (inserted_at p v ks))
      (λ t.
      let e : suc (p - 1) ≡ p = omega arith in
      let a : get_or (inserted_at p v ks) (p - 1) 0 < get_or (inserted_at p v ks) (suc (p - 1)) 0
      = rising-next (inserted_at p v ks) t (p - 1) (omega (arith, inserted-length p v ks h)) in
      omega (arith, rw (e, inserted-before p v ks h (p - 1) (omega arith), inserted-here p v ks h) at a))

  -- the one that follows is not above
  pub insert-high : p < length ks → get_or ks p 0 ≤ v → rising (inserted_at p v ks) ≡ false
  insert-high z l =
      is_false (rising (inserted_at p v ks))
      (λ t.
      let a : get_or (inserted_at p v ks) p 0 < get_or (inserted_at p v ks) (suc p) 0
      = rising-next (inserted_at p v ks) t p (omega (arith, inserted-length p v ks h)) in
      omega (arith, rw (inserted-here p v ks h, inserted-after p v ks h p (omega arith)) at a))

  -- between its neighbours
  pub insert-between : T (rising ks) → (0 < p → get_or ks (p - 1) 0 < v) → (p < length ks → v < get_or ks p 0) → T (rising (inserted_at p v ks))
  insert-between t low high = rising-all (inserted_at p v ks) (λ i l. at i (omega (arith, inserted-length p v ks h)))
    where
      at : (i : ℕ) → i < length ks → get_or (inserted_at p v ks) i 0 < get_or (inserted_at p v ks) (suc i) 0
      at i l =
          elim (dec_lt i p) [
            | yes lt ↦ early i lt l
            | no ge ↦
                elim (ℕ_discrete i p) [
                  | yes e ↦ rw (e, inserted-here p v ks h, inserted-after p v ks h p (omega arith)) (high (omega arith))
                  | no ne ↦ late i (omega arith) l
                ]
          ]
        where
          early : (j : ℕ) → j < p → j < length ks → get_or (inserted_at p v ks) j 0 < get_or (inserted_at p v ks) (suc j) 0
          early j a b =
              elim (ℕ_discrete (suc j) p) [
                | yes e ↦
                    let d : p - 1 ≡ j = omega arith in
                    rw (e, inserted-before p v ks h j a, inserted-here p v ks h) (subst (λ (k : ℕ). get_or ks k 0 < v) d (low (omega arith)))
                | no e ↦ rw (inserted-before p v ks h j a, inserted-before p v ks h (suc j) (omega arith))
                    (rising-next ks t j (omega arith))
              ]

          late : (j : ℕ) → p < j → j < length ks → get_or (inserted_at p v ks) j 0 < get_or (inserted_at p v ks) (suc j) 0
          late zero a b = absurd (omega arith)
          late (suc j) a b = rw (inserted-after p v ks h j (omega arith), inserted-after p v ks h (suc j) (omega arith))
              (rising-next ks t j b)
