-- A witness for each member of a list, where lists are put together and taken apart. Assumes nothing.
use mathlib.Core.Path.{◌≡◌}
use mathlib.Core.List.{List, [], ◌∷◌, ◌++◌}
use Prim.Native.Nat.{ℕ, ◌+◌}
use native.Mathlib.Omega.{arith}
use Rattle.forest.proofs.Decides.{Counting, Each, sum_each}

module _ {X : Type 0} {W : X → Type 0} (count : (x : X) → W x → ℕ → ℕ) where
  pub each_append : (xs ys : List X) (a : Each W xs) (b : Each W ys)
      → Counting (Each W (xs ++ ys)) (sum_each count (xs ++ ys)) (λ i. sum_each count xs a i + sum_each count ys b i)
  each_append [] ys a b = (b, λ i. omega arith)
  each_append (x ∷ xs) ys a b =
      let (w, q) = each_append xs ys a.1 b in
      ((a.0, w), λ i. omega (arith, q i))

  pub each-split : (xs ys : List X) (w : Each W (xs ++ ys))
      → Counting (Each W xs × Each W ys) (λ y i. sum_each count xs y.0 i + sum_each count ys y.1 i) (sum_each count (xs ++ ys) w)
  each-split [] ys w = ((tt, w), λ i. omega arith)
  each-split (x ∷ xs) ys w =
      let (y, q) = each-split xs ys w.1 in
      (((w.0, y.0), y.1), λ i. omega (arith, q i))
