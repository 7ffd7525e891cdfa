-- How a call that changes lent memory crosses to C: its number is returned, and memory is what the call's own definition leaves.
use Rattle.std.specs.Prelude.{ℕ, ◌≡◌}
use Rattle.arena.specs.Memory.{Memory, Did}

-- the call returned the number of what was done, and left this memory
pub record CrossedLent (d : Did) (returned : ℕ) (left : Memory) : Type 0 where
  pub number : returned ≡ d.answer.number
  pub lent : left ≡ d.after
