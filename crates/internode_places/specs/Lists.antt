-- Lists of ikeys and of children, of any length: their order, places in them, and insertion.
use Rattle.std.specs.Prelude.{ℕ, zero, suc, Bool, true, false, ◌&&◌, List, [], ◌∷◌, ◌++◌, take, drop, ltb}
pub use Rattle.order.specs.Lists.{here_or_later}

-- the first of the list, if it has one, is above k
abbrev pub below : ℕ → List ℕ → Bool
below k [] = true
below k (next ∷ ks) = ltb k next

-- strictly rising
unfoldable pub rising : List ℕ → Bool
rising [] = true
rising (k ∷ ks) = below k ks && rising ks

-- the first place that passes the test, or the length where none does
unfoldable pub first : (ℕ → Bool) → List ℕ → ℕ
first test [] = zero
first test (k ∷ ks) = here_or_later (test k) (first test ks)

-- one more than the place in the rest where it has one; else 1 where the test holds here, and 0 where it does not
abbrev pub one_more_or : ℕ → Bool → ℕ
one_more_or (suc later) here = suc (suc later)
one_more_or zero true = 1
one_more_or zero false = zero

-- the place after the last that passes the test, or 0 where none does
unfoldable pub after_last : (ℕ → Bool) → List ℕ → ℕ
after_last test [] = zero
after_last test (k ∷ ks) = one_more_or (after_last test ks) (test k)

-- v goes to place p, and what stood at p and later follows it
unfoldable pub inserted_at : ℕ → ℕ → List ℕ → List ℕ
inserted_at p v xs = take p xs ++ v ∷ drop p xs
