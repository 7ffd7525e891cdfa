-- A number by its nibbles, the base 16 digits, lowest first.
use Rattle.std.specs.Prelude.{ℕ, zero, suc, ◌+◌, ◌*◌, ◌/◌, ◌%◌, List, [], ◌∷◌}

-- the number whose nibbles are the list's
unfoldable pub pack : List ℕ → ℕ
pack [] = 0
pack (d ∷ ds) = pack ds * 16 + d

-- the k lowest nibbles of a number
unfoldable pub nibbles : ℕ → ℕ → List ℕ
nibbles zero v = []
nibbles (suc k) v = v % 16 ∷ nibbles k (v / 16)
