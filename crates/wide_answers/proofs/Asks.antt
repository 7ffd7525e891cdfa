-- What the functions inside ask, of a wide bank that was judged. Assumes nothing.
use mathlib.Core.Path.{◌≡◌}
use mathlib.Core.List.{List}
use Prim.Native.Nat.{ℕ, ◌+◌, ◌-◌, ◌≤◌, ◌<◌}
use native.Mathlib.Omega.{arith}
use lib.ListN.{length, get_or}
use borrow.Author.Rules.{rules}
use Rattle.wide_answers.proofs.Calls.{Passes, passes, passes_back, good}

module _ (w : ℕ) (bytes : List ℕ) (f : Passes w bytes) (l : length bytes ≡ 25) where
  pub width-here : w ≤ 24
  width-here = (good w bytes f l).most

  pub width-below : w < 25
  width-below = omega (arith, (good w bytes f l).most)

  pub least-here : 1 ≤ w
  least-here = omega (arith, (good w bytes f l).least)

  pub below-width : {i : ℕ} → i < w → i + 1 < 25
  below-width h = omega (arith, (good w bytes f l).most)

  pub place-below : {i : ℕ} → i < w → i < 24
  place-below h = omega (arith, (good w bytes f l).most)

  pub size-bytes : get_or bytes 0 0 ≤ w
  size-bytes = (good w bytes f l).sized

  pub size_small : {n : ℕ} → n ≡ get_or bytes 0 0 → n ≤ 24
  size_small s = omega (arith, (good w bytes f l).sized, (good w bytes f l).most)

  pub less-small : {n : ℕ} → n ≡ get_or bytes 0 0 → n - 1 ≤ 24
  less-small s = omega (arith, (good w bytes f l).sized, (good w bytes f l).most)

  pub more-small : {n : ℕ} → n < w → n + 1 ≤ 24
  more-small h = omega (arith, (good w bytes f l).most)

  pub next_here : {n i : ℕ} → n ≡ get_or bytes 0 0 → i < n → i + 1 ≤ w
  next_here s h = omega (arith, (good w bytes f l).sized)

pub ruleset asks = (
  rules,
  passes,
  passes_back,
  width-here,
  width-below,
  least-here,
  below-width,
  place-below,
  size-bytes,
  size_small,
  less-small,
  more-small,
  next_here,
)
