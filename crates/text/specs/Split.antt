-- Bytes cut at a separator.
use Rattle.std.specs.Prelude.{ℕ, cond, List, [], ◌∷◌, eqb}

-- up to the first separator
unfoldable pub up_to : ℕ → List ℕ → List ℕ
up_to sep [] = []
up_to sep (b ∷ bs) = cond (eqb b sep) [] (b ∷ up_to sep bs)

-- the parts behind the first separator
unfoldable pub behind : ℕ → List ℕ → List (List ℕ)
behind sep [] = []
behind sep (b ∷ bs) = cond (eqb b sep) (up_to sep bs ∷ behind sep bs) (behind sep bs)

-- what stands between separators: one part more than there are separators
abbrev pub split : ℕ → List ℕ → List (List ℕ)
split sep bs = up_to sep bs ∷ behind sep bs
