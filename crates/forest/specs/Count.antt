-- The number of entries that memory keeps, and how many numbers pass a test.
use Rattle.std.specs.Prelude.{ℕ, zero, suc, Bool, get_or}
use Rattle.bank.specs.Lists.{one_more_if}
use Rattle.arena.specs.Memory.{Memory}

-- the number of entries as it is stored: word 1 of the nodes
abbrev pub count_of : Memory → ℕ
count_of m = get_or m.nodes 1 0

-- how many of the numbers below n pass the test
unfoldable pub how_many : ℕ → (ℕ → Bool) → ℕ
how_many zero test = 0
how_many (suc n) test = one_more_if (test n) (how_many n test)
