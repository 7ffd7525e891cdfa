-- The lines of an input, and an input that comes in parts.
use Rattle.std.specs.Prelude.{ℕ, zero, suc, ◌+◌, ◌-◌, Bool, cond, List, [], ◌∷◌, ◌++◌, ltb, length, take, drop}
use Rattle.text.specs.Split.{up_to, split}
use Rattle.line_input.specs.declared.inside.Taken.{Taken}

-- a part alone, or none where it is empty
unfoldable pub unless_empty : List ℕ → List (List ℕ)
unless_empty [] = []
unless_empty (b ∷ bs) = (b ∷ bs) ∷ []

-- every part but an empty last one
unfoldable pub but_empty_last : List (List ℕ) → List (List ℕ)
but_empty_last [] = []
but_empty_last (p ∷ []) = unless_empty p
but_empty_last (p ∷ q ∷ ps) = p ∷ but_empty_last (q ∷ ps)

-- the lines of an input: what stands between line feeds; behind the last one there is a line only if it is not empty
unfoldable pub lines_of : List ℕ → List (List ℕ)
lines_of input = but_empty_last (split 10 input)

-- as much of a line as is kept: one byte more than a good line has
abbrev pub kept : List ℕ → List ℕ
kept line = take 1201 line

-- the bytes of a part that a line of which so many are kept takes over
abbrev pub taken_over : ℕ → List ℕ → List ℕ
taken_over held part = take (1201 - held) (up_to 10 part)

-- a line goes on in a part, as far as its line feed, which is used up too, or as far as the part goes
abbrev pub taken_from : ℕ → List ℕ → Taken
taken_from held part =
    record {
      used = length (up_to 10 part) + cond (ltb (length (up_to 10 part)) (length part)) 1 0;
      kept = held + length (taken_over held part);
      ended = ltb (length (up_to 10 part)) (length part);
    }

-- a part gone through, in so many turns at most: the lines that end in it, as much of each as is kept
unfoldable pub lines_in : ℕ → List ℕ → List ℕ → List (List ℕ)
lines_in zero held part = []
lines_in (suc turns) held part =
    cond (taken_from (length held) part).ended
    ((held ++ taken_over (length held) part) ∷ lines_in turns [] (drop (taken_from (length held) part).used part))
    []

-- and what is kept of the line that does not end in it
unfoldable pub held_after : ℕ → List ℕ → List ℕ → List ℕ
held_after zero held part = held
held_after (suc turns) held part =
    cond (taken_from (length held) part).ended
    (held_after turns [] (drop (taken_from (length held) part).used part))
    (held ++ taken_over (length held) part)

-- all parts gone through: what is kept at the end is a line too, unless it is empty
unfoldable pub lines_through : List ℕ → List (List ℕ) → List (List ℕ)
lines_through held [] = unless_empty held
lines_through held (p ∷ ps) = lines_in (suc (length p)) held p ++ lines_through (held_after (suc (length p)) held p) ps

-- the parts as one input
unfoldable pub in_one : List (List ℕ) → List ℕ
in_one [] = []
in_one (p ∷ ps) = p ++ in_one ps
