-- The lines that end in a part of the input, answered one after another.
use Rattle.std.specs.Prelude.{ℕ, suc, ◌+◌, ◌≤◌, ◌≡◌, Bool, true, false, List, [], ◌∷◌, length, take}
use Rattle.arena.specs.Memory.{Memory}
use Rattle.line_input.specs.Input.{lines_in, held_after}
use Rattle.text.specs.Command.{read}
use Rattle.lines_said.specs.Said.{left}

-- what lines leave in memory, carried out one after another
unfoldable pub left_by : Memory → List (List ℕ) → Memory
left_by m [] = m
left_by m (line ∷ lines) = left_by (left m (read line)) lines

-- the lines that end in a part, the first of them begun by the bytes held
abbrev pub lines_here : List ℕ → List ℕ → List (List ℕ)
lines_here held part = lines_in (suc (length part)) held part

-- what is held of the line that does not end in it
abbrev pub held_here : List ℕ → List ℕ → List ℕ
held_here held part = held_after (suc (length part)) held part

-- Of the lines that end in a part the first `answered` are carried out, in order, each once, and no other. These are all of them, and what
-- is kept is what is held of the next, unless a write failed; then the last of them is the one that could not be written.
pub record PartDone (m : Memory) (held part : List ℕ) (answered : ℕ) (failed : Bool) (after : Memory) (kept : List ℕ) : Type 0 where
  pub leaves : after ≡ left_by m (take answered (lines_here held part))
  pub written : failed ≡ false → (answered ≡ length (lines_here held part)) × (kept ≡ held_here held part)
  pub stopped : failed ≡ true → (1 ≤ answered) × (answered ≤ length (lines_here held part))

-- One part after another, no write failed, each going on with the memory and the bytes that the one before it left; the
-- number counts the lines answered in all.
pub data PartsDone : Memory → List ℕ → List (List ℕ) → ℕ → Memory → List ℕ → Type 0 where
  no_part : {m : Memory} {held : List ℕ} → PartsDone m held [] 0 m held
  one_more : {m between after : Memory} {held part kept-between kept : List ℕ} {parts : List (List ℕ)} {here later : ℕ}
      → PartDone m held part here false between kept-between → PartsDone between kept-between parts later after kept
      → PartsDone m held (part ∷ parts) (here + later) after kept
