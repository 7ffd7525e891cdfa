-- The edges of a node as numbers.
use Rattle.std.specs.Prelude.{ℕ, suc, Option, Some, None}
use Rattle.forest.specs.Trees.{leftmost, rightmost}

-- the left edge as a number: the ikey that stands there plus 1, or 0 where none does
abbrev pub left_of : Option ℕ → ℕ
left_of None = leftmost
left_of (Some ikey) = suc ikey

-- the right edge as a number: the ikey that stands there plus 1, or 2^64 + 1 where none does
abbrev pub right_of : Option ℕ → ℕ
right_of None = rightmost
right_of (Some ikey) = suc ikey
