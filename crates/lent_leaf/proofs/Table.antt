-- A list of entries is the table of what it holds at each place. Assumes nothing.
use Prim.Native.Nat.{ℕ, zero, suc}
use native.Mathlib.Omega.{arith}
use mathlib.Core.Path.{◌≡◌, refl, ap}
use mathlib.Core.List.{List, [], ◌∷◌}
use lib.ListN.{length, get_or}
use Rattle.leaf_entries.specs.declared.Entry.{Entry}
use Rattle.leaf.specs.Leaf.{none}

-- the first n values of f
abbrev pub table : ℕ → (ℕ → Entry) → List Entry
table zero f = []
table (suc n) f = f zero ∷ table n (λ i. f (suc i))

pub table_is : (n : ℕ) (es : List Entry) → length es ≡ n → table n (λ i. get_or es i none) ≡ es
table_is zero [] e = refl
table_is zero (x ∷ es) e = absurd (omega arith)
table_is (suc n) [] e = absurd (omega arith)
table_is (suc n) (x ∷ es) e = ap (λ (zs : List Entry). x ∷ zs) (table_is n es (omega arith))
