-- How a call that changes lent memory, and tells numbers both where it is accepted and where it is refused, crosses to C: into numbers of
-- their own each.
use Rattle.std.specs.Prelude.{ℕ, ◌≡◌, List}
use Rattle.arena.specs.Memory.{Memory, Did}
use Rattle.crossing.specs.Crossing.{lent_after}
use Rattle.crossing.specs.Told.{told_after}

-- the call returned the number of what was done, left this memory, the numbers that are lent for what an accepted call tells as these,
-- and those that are lent for what a refusal tells as those; either are as they were before where nothing is told
pub record CrossedLentBoth (d : Did) (returned : ℕ) (left : Memory) (before after before-told after-told : List ℕ) : Type 0 where
  pub number : returned ≡ d.answer.number
  pub lent : left ≡ d.after
  pub values : after ≡ lent_after d.answer before
  pub told : after-told ≡ told_after d.answer before-told
