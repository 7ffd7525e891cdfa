-- Numbers noted one after the other in a lent row, as far as it has room.
use Rattle.std.specs.Prelude.{ℕ, ◌+◌, cond, ltb, length, set}
use mathlib.Core.List.{List, foldl}

-- one number, at the place where the next goes
unfoldable pub noted : List ℕ × ℕ → ℕ → List ℕ × ℕ
noted p c = cond (ltb p.1 (length p.0)) (set p.0 p.1 c, p.1 + 1) p

-- one number after the other
abbrev pub noted_all : List ℕ × ℕ → List ℕ → List ℕ × ℕ
noted_all p cs = foldl noted p cs
