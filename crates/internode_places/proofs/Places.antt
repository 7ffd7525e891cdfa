-- The first place that passes a test, and the place after the last: what they are known by. Assumes nothing.
use mathlib.Core.Path.{◌≡◌, refl, sym}
use mathlib.Core.Bool.{Bool, true, false, cond}
use mathlib.Core.List.{List, [], ◌∷◌}
use Prim.Native.Nat.{ℕ, zero, suc, ◌+◌, ◌≤◌, ◌<◌}
use native.Mathlib.Nat.{not-suc-le-zero}
use native.Mathlib.Omega.{arith}
use native.Mathlib.Decide.{dec_lt}
use borrow.Author.Tests.{lt-ltb, le-ltb}
use lib.ListN.{length, get_or}
use Rattle.std.specs.List.{position, position_or_len}
use Rattle.std.specs.Option.{unwrap_or}
use Rattle.std.proofs.lemmas.List.Recursion.{is_position_or_len}
use Rattle.internode_places.specs.Lists.{first, after_last, here_or_later, one_more_or}

module _ (test : ℕ → Bool) where
  pub first-most : (ks : List ℕ) → first test ks ≤ length ks
  unfolding first
  first-most [] = omega arith
  first-most (x ∷ ks) = by (test x) (first-most ks)
    where
      by : (b : Bool) → first test ks ≤ length ks → here_or_later b (first test ks) ≤ suc (length ks)
      by true l = omega arith
      by false l = omega arith

  pub first-before : (ks : List ℕ) (k : ℕ) → k < first test ks → test (get_or ks k 0) ≡ false
  unfolding first
  first-before [] k h = absurd (not-suc-le-zero h)
  first-before (x ∷ ks) k h = by (first-before ks) (test x) refl k h
    where
      by : ((j : ℕ) → j < first test ks → test (get_or ks j 0) ≡ false) → (b : Bool) → test x ≡ b → (j : ℕ)
          → j < here_or_later b (first test ks) → test (get_or (x ∷ ks) j 0) ≡ false
      by later true e j l = absurd (not-suc-le-zero l)
      by later false e zero l = e
      by later false e (suc j) l = later j (omega arith)

  pub first-at : (ks : List ℕ) → first test ks < length ks → test (get_or ks (first test ks) 0) ≡ true
  unfolding first
  first-at [] h = absurd (not-suc-le-zero h)
  first-at (x ∷ ks) h = by (first-at ks) (test x) refl h
    where
      by : (first test ks < length ks → test (get_or ks (first test ks) 0) ≡ true) → (b : Bool) → test x ≡ b
          → here_or_later b (first test ks) < suc (length ks)
          → test (get_or (x ∷ ks) (here_or_later b (first test ks)) 0) ≡ true
      by later true e l = e
      by later false e l = later (omega arith)

  -- what `position` finds, or the length
  pub position-first : (ks : List ℕ) (n : ℕ) → length ks ≡ n → unwrap_or (position test ks) n ≡ first test ks
  unfolding first
  position-first ks n h =
      elim (dec_lt (position_or_len test ks) (length ks)) [
        | yes l ↦ rw (lt-ltb (position_or_len test ks) (length ks) l) (sym same)
        | no m ↦ rw (le-ltb (position_or_len test ks) (length ks) (omega arith)) (omega (arith, same, first-most ks))
      ]
    where
      one : (b : Bool) (later : ℕ) → here_or_later b later ≡ cond b 0 (1 + later)
      one true later = refl
      one false later = omega arith

      same : first test ks ≡ position_or_len test ks
      same = is_position_or_len (first test) test refl (λ k rest. one (test k) (first test rest)) ks

  -- ---- the place after the last

  pub last_none : (ks : List ℕ) → ((k : ℕ) → k < length ks → test (get_or ks k 0) ≡ false) → after_last test ks ≡ 0
  unfolding after_last
  last_none [] f = refl
  last_none (x ∷ ks) f = rw (last_none ks (λ k l. f (suc k) (omega arith)), f 0 (omega arith))

  pub last-here : (ks : List ℕ) (i : ℕ) → i < length ks → test (get_or ks i 0) ≡ true
      → ((k : ℕ) → i < k → k < length ks → test (get_or ks k 0) ≡ false) → after_last test ks ≡ suc i
  unfolding after_last
  last-here [] i h e f = absurd (not-suc-le-zero h)
  last-here (x ∷ ks) zero h e f = rw (last_none ks (λ k l. f (suc k) (omega arith) (omega arith)), e)
  last-here (x ∷ ks) (suc i) h e f = rw (last-here ks i (omega arith) e (λ k l m. f (suc k) (omega arith) (omega arith)))

  -- the place that parts those that pass from those that do not
  pub last-parts : (ks : List ℕ) (i : ℕ) → i ≤ length ks → ((k : ℕ) → k < i → test (get_or ks k 0) ≡ true)
      → ((k : ℕ) → i ≤ k → k < length ks → test (get_or ks k 0) ≡ false) → after_last test ks ≡ i
  last-parts ks zero h f g = last_none ks (λ k l. g k (omega arith) l)
  last-parts ks (suc i) h f g = last-here ks i h (f i (omega arith)) (λ k l m. g k l m)

  pub last-most : (ks : List ℕ) → after_last test ks ≤ length ks
  unfolding after_last
  last-most [] = omega arith
  last-most (x ∷ ks) = by (after_last test ks) (test x) (last-most ks)
    where
      by : (m : ℕ) (b : Bool) → m ≤ length ks → one_more_or m b ≤ suc (length ks)
      by zero true l = omega arith
      by zero false l = omega arith
      by (suc m) b l = omega arith
