-- Zeros laid over each other one by one. Assumes nothing.
use Prim.Native.Nat.{ℕ, ◌+◌, ◌≤◌, ◌<◌}
use mathlib.Core.Path.{◌≡◌, refl, sym, ap, ◌∙◌}
use mathlib.Core.Bool.{Bool, true, false, ◌&&◌}
use mathlib.Core.List.{List, [], ◌∷◌, ◌++◌}
use native.Mathlib.Numerals.{add-one}
use native.Mathlib.Omega.{arith}
use native.Mathlib.Decide.{ℕ_discrete}
use lib.Dec.{eqb}
use lib.Bits.{bit_or, or_zero_l, or_add_and, and_le_r}
use lib.ListN.{length, get_or, drop, length-drop}
use lib.Seq.{take-suc, get_or-drop}
use borrow.Author.Tests.{ne_eqb}
use Rattle.arena.specs.Parts.{part}
use Rattle.leaf.specs.Lists.{every}
use Rattle.forest.specs.Nodes.{all_zero}

pub and_yes : (a : Bool) → a ≡ a && true
and_yes true = refl
and_yes false = refl

-- ---- two words laid over each other

pub or-none : (a b : ℕ) → eqb (bit_or a b) 0 ≡ (eqb a 0 && eqb b 0)
or-none a b =
    elim (ℕ_discrete a 0) [
      | yes e ↦ rw e (ap (λ (x : ℕ). eqb x 0) (or_zero_l b))
      | no f ↦ ne_eqb (bit_or a b) 0 (λ z. f (omega (arith, or_add_and a b, and_le_r a b)))
          ∙ ap (λ (x : Bool). x && eqb b 0) (sym (ne_eqb a 0 f))
    ]

-- ---- a part, word by word

every_more : (test : ℕ → Bool) (xs : List ℕ) (x : ℕ) → every test (xs ++ x ∷ []) ≡ (every test xs && test x)
unfolding every
every_more test [] x = sym (and_yes (test x))
every_more test (y ∷ xs) x = by (test y) (every_more test xs x)
  where
    by : (b : Bool) → every test (xs ++ x ∷ []) ≡ (every test xs && test x)
        → (b && every test (xs ++ x ∷ [])) ≡ ((b && every test xs) && test x)
    by true e = e
    by false e = refl

module _ (xs : List ℕ) (at : ℕ) where
  pub zero-first : eqb 0 0 ≡ all_zero (part xs at 0)
  unfolding part every
  zero-first = refl

  part-more : (i : ℕ) → at + i < length xs → part xs at (i + 1) ≡ part xs at i ++ get_or xs (at + i) 0 ∷ []
  unfolding part
  part-more i l =
      rw (add-one i, ← get_or-drop at xs i 0) (take-suc (drop at xs) i 0
      (let z : i < length (drop at xs) = rw (length-drop at xs) (omega arith) in z))

  module _ (found : ℕ) {n i : ℕ} (e : eqb found 0 ≡ all_zero (part xs at i)) where
    pub zero-next : at + n ≤ length xs → i < n → eqb (bit_or found (get_or xs (at + i) 0)) 0 ≡ all_zero (part xs at (i + 1))
    zero-next h l =
        or-none found (get_or xs (at + i) 0)
        ∙ ap (λ (b : Bool). b && eqb (get_or xs (at + i) 0) 0) e
        ∙ sym (every_more (λ x. eqb x 0) (part xs at i) (get_or xs (at + i) 0))
        ∙ ap (every (λ x. eqb x 0)) (sym (part-more i (omega arith)))

    pub zero-last : i ≤ n → n ≤ i → eqb found 0 ≡ all_zero (part xs at n)
    zero-last h l = e ∙ ap (λ (k : ℕ). all_zero (part xs at k)) (let z : i ≡ n = omega arith in z)

pub ruleset zeros = (zero-next, zero-last)
