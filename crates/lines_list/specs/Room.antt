-- Lent bytes with room for what is printed.
use Rattle.std.specs.Prelude.{ℕ, ◌≤◌, List, length}
use Rattle.arena.specs.Memory.{Memory}
use Rattle.lines_said.specs.Said.{listed}

-- lent bytes enough for any answer
pub record Room (m : Memory) (out : List ℕ) : Type 0 where
  pub short : 100 ≤ length out
  pub long : length (listed m) ≤ length out
