-- What the places in an internode mean: the place of an insertion and the child of a descent. Assumes nothing.
use mathlib.Core.Path.{◌≡◌, subst}
use mathlib.Core.Bool.{true}
use mathlib.Core.List.{List}
use Prim.Native.Nat.{ℕ, ◌-◌, ◌≤◌, ◌<◌}
use native.Mathlib.Omega.{arith}
use native.Mathlib.Decide.{ℕ_discrete}
use borrow.Author.Tests.{le-leb, lt-leb, leb-true, leb-false, ltb-true, ltb-false}
use lib.Dec.{T, leb, ltb}
use lib.ListN.{length, get_or, length-take}
use lib.Seq.{get_or-take, length-take-le}
use Rattle.internode_places.specs.declared.Internode.{Internode}
use Rattle.internode_places.specs.Lists.{rising, first, after_last, inserted_at}
use Rattle.internode_places.specs.Node.{good, keys_of, insert_position, child_place}
use Rattle.internode_places.proofs.Rising.{rising-lt}
use Rattle.internode_places.proofs.Places.{first-most, first-before, first-at, last-parts, last-most}
use Rattle.internode_places.proofs.Inserts.{insert-between}
use Rattle.internode_places.proofs.Judgement.{good-rising}
use Rattle.internode_places.proofs.Whole.{Whole}

-- ---- lists of any length

module _ (target : ℕ) (ks : List ℕ) where
  abbrev first_not_below : ℕ
  first_not_below = first (λ k. leb target k) ks

  -- every ikey before the first not below the target is below it, and the one there is not
  pub first_below : (k : ℕ) → k < first_not_below → get_or ks k 0 < target
  first_below k l = leb-false target (get_or ks k 0) (first-before (λ k. leb target k) ks k l)

  pub first-not-below : first_not_below < length ks → target ≤ get_or ks first_not_below 0
  first-not-below l = leb-true target (get_or ks first_not_below 0) (first-at (λ k. leb target k) ks l)

  -- an ikey that is not there keeps the order strict at that place
  pub fresh-rises : T (rising ks) → ((k : ℕ) → k < length ks → get_or ks k 0 ≡ target → ⊥) → T (rising (inserted_at first_not_below target ks))
  fresh-rises t fresh =
      insert-between first_not_below target ks (first-most (λ k. leb target k) ks) t
      (λ z. first_below (first_not_below - 1) (omega arith))
      (λ l. above (first-not-below l) (fresh first_not_below l))
    where
      above : {a b : ℕ} → a ≤ b → (b ≡ a → ⊥) → a < b
      above l n = omega arith

  abbrev first_above : ℕ
  first_above = first (λ k. ltb target k) ks

  -- in a rising list the place after the last ikey not above the target is the first ikey above it
  pub last-is-first : T (rising ks) → after_last (λ k. leb k target) ks ≡ first_above
  last-is-first t =
      last-parts (λ k. leb k target) ks first_above (first-most (λ k. ltb target k) ks)
      (λ k l. le-leb (get_or ks k 0) target (ltb-false target (get_or ks k 0) (first-before (λ k. ltb target k) ks k l)))
      (λ k l m. lt-leb (get_or ks k 0) target (from k l m
      (ltb-true target (get_or ks first_above 0) (first-at (λ k. ltb target k) ks (omega arith)))))
    where
      from : (k : ℕ) → first_above ≤ k → k < length ks → target < get_or ks first_above 0 → target < get_or ks k 0
      from k l m a =
          elim (ℕ_discrete first_above k) [
            | yes e ↦ subst (λ (j : ℕ). target < get_or ks j 0) e a
            | no e ↦ omega (arith, rising-lt ks t first_above k (omega arith) m)
          ]

-- ---- one node

module _ (x : Internode) (target : ℕ) where
  pub position-most : insert_position x target ≤ x.n
  position-most = omega (arith, first-most (λ k. leb target k) (keys_of x), length-take x.n x.ikeys)

  -- every ikey before the place is below the target
  pub position-before : (k : ℕ) → k < insert_position x target → get_or x.ikeys k 0 < target
  position-before k l = rw (get_or-take x.n x.ikeys k 0 (omega (arith, position-most))) at (first_below target (keys_of x) k l)

  -- the one at the place is not
  pub position_at : Whole x → x.n ≤ 15 → insert_position x target < x.n → target ≤ get_or x.ikeys (insert_position x target) 0
  position_at w h l =
      rw (get_or-take x.n x.ikeys (insert_position x target) 0 l) at
      (first-not-below target (keys_of x) (omega (arith, w.ikeys-15, length-take x.n x.ikeys)))

  pub child-most : child_place x target ≤ x.n
  child-most = omega (arith, last-most (λ k. leb k target) (keys_of x), length-take x.n x.ikeys)

  -- the child stands at the first ikey above the target
  pub child-is-first : good x ≡ true → child_place x target ≡ first (λ k. ltb target k) (keys_of x)
  child-is-first g = last-is-first target (keys_of x) (good-rising x g)

  module _ (w : Whole x) (h : x.n ≤ 15) (g : good x ≡ true) where
    place : child_place x target ≡ first (λ k. ltb target k) (keys_of x)
    place = child-is-first g

    -- every ikey left of the child is not above the target
    pub child-left : (k : ℕ) → k < child_place x target → get_or x.ikeys k 0 ≤ target
    child-left k l =
        rw (get_or-take x.n x.ikeys k 0 (omega (arith, child-most))) at
        (ltb-false target (get_or (keys_of x) k 0) (first-before (λ k. ltb target k) (keys_of x) k (omega (arith, place))))

    -- every ikey right of the child is above it
    pub child-right : (k : ℕ) → child_place x target ≤ k → k < x.n → target < get_or x.ikeys k 0
    child-right k l m =
        let e : length (keys_of x) ≡ x.n = length-take-le x.n x.ikeys (omega (arith, w.ikeys-15)) in
        let a : target < get_or (keys_of x) (first (λ k. ltb target k) (keys_of x)) 0
        = ltb-true target (get_or (keys_of x) (first (λ k. ltb target k) (keys_of x)) 0)
        (first-at (λ k. ltb target k) (keys_of x) (omega (arith, place))) in
        rw (get_or-take x.n x.ikeys k 0 m) at (from a e)
      where
        from : target < get_or (keys_of x) (first (λ k. ltb target k) (keys_of x)) 0 → length (keys_of x) ≡ x.n → target < get_or (keys_of x) k 0
        from a e =
            elim (ℕ_discrete (first (λ k. ltb target k) (keys_of x)) k) [
              | yes d ↦ subst (λ (j : ℕ). target < get_or (keys_of x) j 0) d a
              | no d ↦
                  omega (
                    arith,
                    rising-lt (keys_of x) (good-rising x g) (first (λ k. ltb target k) (keys_of x)) k (omega (arith, place)) (omega arith),
                  )
            ]
