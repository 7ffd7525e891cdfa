-- The answer to one line: what is printed, and what is left in memory, passed on from the crate that says it; and lent bytes with it.
use Rattle.std.specs.Prelude.{ℕ, ◌≡◌, List}
use Rattle.arena.specs.Memory.{Memory}
use Rattle.text.specs.Command.{Command}
use Rattle.page.specs.Page.{Typed}
use Rattle.lines_said.specs.Said.{printed, left}
unfoldable pub use Rattle.lines_said.specs.Said.{unless_refused, printed, left}

-- memory `after`, and the answer printed at the front of the lent bytes, up to `place`
pub record Answered (m : Memory) (command : Command) (out : List ℕ) (place : ℕ) (after : Memory) (written : List ℕ) : Type 0 where
  pub leaves : after ≡ left m command
  pub prints : Typed out 0 (printed m command) place written
