-- Lists that agree place by place. Assumes nothing.
use mathlib.Core.Path.{◌≡◌}
use mathlib.Core.Bool.{true, false}
use mathlib.Core.List.{List}
use Prim.Native.Nat.{ℕ, ◌+◌, ◌≤◌, ◌<◌}
use native.Mathlib.Omega.{arith}
use borrow.Author.Count.{below_more}
use lib.ListN.{length, get_or}
use lib.Seq.{ext_get_or}

-- the same at each place before k
abbrev pub Agree : List ℕ → List ℕ → ℕ → Type 0
Agree xs ys k = (j : ℕ) → j < k → get_or xs j 0 ≡ get_or ys j 0

pub agree-none : (xs ys : List ℕ) → Agree xs ys 0
agree-none xs ys j h = absurd (omega arith)

pub agree-more : (xs ys : List ℕ) (k : ℕ) → Agree xs ys k → get_or xs k 0 ≡ get_or ys k 0 → Agree xs ys (k + 1)
agree-more xs ys k = below_more (λ (j : ℕ). get_or xs j 0 ≡ get_or ys j 0) k

pub agree-all : (xs ys : List ℕ) (n k : ℕ) → length xs ≡ n → length ys ≡ n → n ≤ k → Agree xs ys k → xs ≡ ys
agree-all xs ys n k a b h f = ext_get_or 0 xs ys (omega arith) (λ j l. f j (omega arith))

-- a comparison that says no promises nothing
pub not-true : {A : Type 0} → false ≡ true → A
not-true e = absurd (let z : ◌≡◌ {A = ℕ} 0 1 = cc in omega arith)
