-- Sums over words and bytes.
use Rattle.std.specs.Prelude.{ℕ, ◌+◌, ◌%◌, ◌^◌, List}
use mathlib.Core.List.{foldl}

-- a sum that runs round at 2^64
abbrev pub plus : ℕ → ℕ → ℕ
plus a b = (a + b) % 2 ^ 64

-- three times the sum so far, and the number
abbrev pub onward : ℕ → ℕ → ℕ
onward sum number = plus (plus (plus sum sum) sum) number

-- over one number after the other
unfoldable pub summed : ℕ → List ℕ → ℕ
summed start numbers = foldl onward start numbers

-- of a memory: from 1 on over its nodes, its cells and its bytes
abbrev pub of_memory : List ℕ → List ℕ → List ℕ → ℕ
of_memory nodes cells bytes = summed (summed (summed 1 nodes) cells) bytes
