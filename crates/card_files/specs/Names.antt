-- The name of a new file.
use Rattle.std.specs.Prelude.{ℕ, zero, suc, ◌≡◌, ◌+◌, ◌/◌, ◌%◌, List, [], ◌∷◌, ◌++◌, length, take}

-- `.XXXXXX`, which stands behind the name of the old file; for the six letters others are put, so that no file has that name
abbrev pub to_be_filled : List ℕ
to_be_filled = 46 ∷ 88 ∷ 88 ∷ 88 ∷ 88 ∷ 88 ∷ 88 ∷ []

-- the last digits of a number, so many of them
unfoldable pub low_digits : ℕ → ℕ → List ℕ
low_digits zero n = []
low_digits (suc count) n = low_digits count (n / 10) ++ (48 + n % 10) ∷ []

-- a dot, and six digits for the letters
abbrev pub filled_in : ℕ → List ℕ
filled_in n = 46 ∷ low_digits 6 n

-- a path, a dot, and six more bytes
pub record IsNewName (path name : List ℕ) : Type 0 where
  pub front : take (length path + 1) name ≡ path ++ 46 ∷ []
  pub room : length name ≡ length path + 7

-- a path, and some number filled in behind it
pub record IsFilledIn (path name : List ℕ) : Type 0 where
  pub number : ℕ
  pub named : name ≡ path ++ filled_in number
