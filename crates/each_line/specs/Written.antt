-- What lines print, answered one after another.
use Rattle.std.specs.Prelude.{List, [], ◌∷◌, ◌++◌, ℕ}
use Rattle.arena.specs.Memory.{Memory}
use Rattle.text.specs.Command.{read}
use Rattle.lines.specs.Answered.{left, printed}

-- of each line what it prints, on the memory that the lines before it left
unfoldable pub printed_by : Memory → List (List ℕ) → List ℕ
printed_by m [] = []
printed_by m (line ∷ lines) = printed m (read line) ++ printed_by (left m (read line)) lines
