-- Where the sixteen entries of a full leaf are cut: nearest to 8, where the ikeys on both sides differ, the lower on a tie.
use Rattle.std.specs.Prelude.{Bool, cond, not, List, [], ◌∷◌, ℕ, pred, eqb, drop}
use Rattle.trees.specs.Nodes.{IkeyClass}
use Rattle.trees.specs.TreePut.{low_of_entries}

-- the first number that passes the test, else z
abbrev pub first_passing : (ℕ → Bool) → ℕ → List ℕ → ℕ
first_passing p z [] = z
first_passing p z (c ∷ cs) = cond (p c) c (first_passing p z cs)

-- the places from 8 outward, the lower first
abbrev pub outward_from_eight : List ℕ
outward_from_eight = 8 ∷ 7 ∷ 9 ∷ 6 ∷ 10 ∷ 5 ∷ 11 ∷ 4 ∷ 12 ∷ 3 ∷ 13 ∷ 2 ∷ 14 ∷ 1 ∷ 15 ∷ []

-- the ikeys on both sides of place c differ
abbrev pub ikeys_differ : {W : Type 0} → List (IkeyClass × W) → ℕ → Bool
ikeys_differ es c = not (eqb (low_of_entries (drop (pred c) es)) (low_of_entries (drop c es)))

-- where the entries of a full leaf and one more are cut
unfoldable pub cut_place : {W : Type 0} → List (IkeyClass × W) → ℕ
cut_place es = first_passing (ikeys_differ es) 8 outward_from_eight
