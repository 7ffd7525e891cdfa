-- How an answer crosses to C: its number is returned, its values go into the numbers that the caller lends.
use Rattle.std.specs.Prelude.{ℕ, ◌≡◌, Bool, true, false, List, eqb}
use Rattle.refusal.specs.Answer.{Answer}

-- these values where the test holds, else what stood there before
abbrev pub written_if : Bool → List ℕ → List ℕ → List ℕ
written_if true values before = values
written_if false values before = before

-- the lent numbers after the call: the values of an accepted one, and after a refused one what stood there before
abbrev pub lent_after : Answer → List ℕ → List ℕ
lent_after a before = written_if (eqb a.number 0) a.values before

-- the call returned the answer's number, and left the lent numbers, which were these before, as these
pub record Crossed (a : Answer) (returned : ℕ) (before after : List ℕ) : Type 0 where
  pub number : returned ≡ a.number
  pub lent : after ≡ lent_after a before
