-- What is printed of answers that were replayed.
use Rattle.std.specs.Prelude.{ℕ, Bool, cond, List, [], ◌∷◌, ◌++◌, codes, decimal}

-- of an answer that differs: its number and its text
abbrev pub difference : ℕ → List ℕ → List ℕ
difference number text = decimal number ++ codes " differs: " ++ text

-- of an answer: nothing if it agrees
abbrev pub if_differing : Bool → ℕ → List ℕ → List ℕ
if_differing agrees number text = cond agrees [] (difference number text)

-- of a line that the input ends within
abbrev pub cut_short : List ℕ
cut_short = codes "a line is cut short" ++ 10 ∷ []

-- of what was left where no whole line was left
abbrev pub ending : List ℕ → List ℕ
ending [] = []
ending (_ ∷ _) = cut_short

-- at the end, with the word for what was replayed
abbrev pub told : ℕ → ℕ → List ℕ → List ℕ
told answers mismatches what = decimal answers ++ codes " " ++ what ++ codes ", " ++ decimal mismatches ++ codes " mismatches" ++ 10 ∷ []
