-- Sums over the numbers below n. Assumes nothing.
use mathlib.Core.Path.{◌≡◌, refl}
use Prim.Native.Nat.{ℕ, zero, suc, ◌+◌, ◌≤◌, ◌<◌}
use native.Mathlib.Omega.{arith}
use native.Mathlib.Decide.{ℕ_discrete}

abbrev pub sum_below : ℕ → (ℕ → ℕ) → ℕ
sum_below zero f = 0
sum_below (suc n) f = f n + sum_below n f

pub sum-plus : (n : ℕ) (f g : ℕ → ℕ) → sum_below n (λ k. f k + g k) ≡ sum_below n f + sum_below n g
sum-plus zero f g = refl
sum-plus (suc n) f g = omega (arith, sum-plus n f g)

pub sum_less : (n : ℕ) (f g : ℕ → ℕ) → ((k : ℕ) → f k ≤ g k) → sum_below n f ≤ sum_below n g
sum_less zero f g h = omega arith
sum_less (suc n) f g h = omega (arith, h n, sum_less n f g h)

pub sum-most : (n : ℕ) (f : ℕ → ℕ) → ((k : ℕ) → f k ≤ 1) → sum_below n f ≤ n
sum-most zero f h = omega arith
sum-most (suc n) f h = omega (arith, h n, sum-most n f h)

-- no part is more than the sum
pub sum-part : (n k : ℕ) (f : ℕ → ℕ) → k < n → f k ≤ sum_below n f
sum-part zero k f h = absurd (omega arith)
sum-part (suc n) k f h = go (ℕ_discrete k n) (sum-part n k f)
  where
    go : Dec (k ≡ n) → (k < n → f k ≤ sum_below n f) → f k ≤ f n + sum_below n f
    go (yes e) r = rw e (omega arith)
    go (no ne) r = omega (arith, r (omega arith))
