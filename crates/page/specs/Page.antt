-- Text written to lent bytes, from a place on.
use Rattle.std.specs.Prelude.{ℕ, ◌+◌, ◌≡◌, List, length}
use Rattle.arena.specs.Parts.{put_part}

-- a text stands in lent bytes from `at` on, the bytes before and behind it are as they were, and `place` is behind it
pub record Typed (before : List ℕ) (at : ℕ) (text : List ℕ) (place : ℕ) (after : List ℕ) : Type 0 where
  pub place_is : place ≡ at + length text
  pub bytes-are : after ≡ put_part before at text
