-- How a refusal that tells numbers crosses to C: they go into the numbers that the caller lends for them.
use Rattle.std.specs.Prelude.{ℕ, ◌≡◌, cond, List, [], ◌∷◌, eqb}
use Rattle.refusal.specs.Answer.{Answer}
use Rattle.crossing.specs.Crossing.{lent_after}

-- what is told, where something is, else what stood there before
abbrev pub unless_none : List ℕ → List ℕ → List ℕ
unless_none [] before = before
unless_none (x ∷ xs) before = x ∷ xs

-- the lent numbers after a call that hands nothing back: what a refusal tells; after an accepted call, and after a refusal that tells
-- nothing, what stood there before
abbrev pub told_after : Answer → List ℕ → List ℕ
told_after a before = cond (eqb a.number 0) before (unless_none a.values before)

-- the call returned the answer's number, and left the numbers that are lent for what an accepted call tells as these, and those that are
-- lent for what a refusal tells as those; either are as they were before where nothing is told
pub record CrossedBoth (a : Answer) (returned : ℕ) (before after before-told after-told : List ℕ) : Type 0 where
  pub number : returned ≡ a.number
  pub values : after ≡ lent_after a before
  pub told : after-told ≡ told_after a before-told
