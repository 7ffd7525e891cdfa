-- How a call crosses to C that writes into a lent buffer: its number is returned, and the buffer is what the call's own definition leaves.
use Rattle.std.specs.Prelude.{ℕ, ◌≡◌, List}
use Rattle.refusal.specs.Answer.{Answer}
use Rattle.crossing.specs.Crossing.{lent_after}

-- the call returned the answer's number, left these bytes in the buffer, and the lent numbers, which were these before, as these
pub record CrossedOut (done : List ℕ × Answer) (returned : ℕ) (left : List ℕ) (before after : List ℕ) : Type 0 where
  pub number : returned ≡ done.1.number
  pub buffer : left ≡ done.0
  pub lent : after ≡ lent_after done.1 before
