-- The bytes of a number, one by one. Assumes nothing.
use Prim.Native.Nat.{ℕ, zero, suc, ◌+◌, ◌-◌, ◌/◌, ◌%◌, ◌<◌, ◌≤◌}
use mathlib.Core.Path.{◌≡◌, refl}
use native.Mathlib.Omega.{arith}
use lib.ListN.{get_or}
use Rattle.card_block.specs.Words.{low_first}

-- what is left to do after j divisions
unfoldable pub digit_from : ℕ → ℕ → ℕ → ℕ
digit_from y i j = get_or (low_first (8 - j) y) (i - j) 0

pub digit-first : (x i : ℕ) → digit_from x i 0 ≡ get_or (low_first 8 x) i 0
unfolding digit_from
digit-first x i = let e : i - 0 ≡ i = omega arith in rw e

pub digit-next : (x y i j : ℕ) → i < 8 → j < i → digit_from y i j ≡ get_or (low_first 8 x) i 0
    → digit_from (y / 256) i (j + 1) ≡ get_or (low_first 8 x) i 0
unfolding digit_from low_first
digit-next x y i j h l e =
    let a : 8 - j ≡ suc (8 - (j + 1)) = omega arith in
    let b : i - j ≡ suc (i - (j + 1)) = omega arith in
    rw (a, b) at e

pub digit-last : (x y i j : ℕ) → i < 8 → j ≤ i → i ≤ j → digit_from y i j ≡ get_or (low_first 8 x) i 0 → y % 256 ≡ get_or (low_first 8 x) i 0
unfolding digit_from low_first
digit-last x y i j h l m e =
    let a : 8 - j ≡ suc (7 - j) = omega arith in
    let b : i - j ≡ 0 = omega arith in
    rw (a, b) at e

-- a low byte is the same in few bytes and in many
pub digit-short : (n m x i : ℕ) → i < n → i < m → get_or (low_first n x) i 0 ≡ get_or (low_first m x) i 0
unfolding low_first
digit-short zero m x i h k = absurd (omega arith)
digit-short (suc n) zero x i h k = absurd (omega arith)
digit-short (suc n) (suc m) x zero h k = refl
digit-short (suc n) (suc m) x (suc i) h k = digit-short n m (x / 256) i (omega arith) (omega arith)
