-- Lists and tests on their members.
use Rattle.std.specs.Prelude.{ℕ, zero, Bool, true, ◌&&◌, List, [], ◌∷◌}
use Rattle.bank.specs.Lists.{here_or_later}

module _ {A : Type 0} where
  -- every member passes the test
  unfoldable pub every : (A → Bool) → List A → Bool
  every test [] = true
  every test (x ∷ xs) = test x && every test xs

  -- the first position whose member passes the test, or the length where none does
  unfoldable pub first_where : (A → Bool) → List A → ℕ
  first_where test [] = zero
  first_where test (x ∷ xs) = here_or_later (test x) (first_where test xs)
