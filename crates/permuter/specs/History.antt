-- The history of a word, by what its calls answer.
use Rattle.std.specs.Prelude.{ℕ}
use Rattle.bank.specs.Calls.{Change}
use Rattle.bank.specs.History.{Done}
use Rattle.bank.specs.Holder.{held_does}
use Rattle.nibbles.specs.Words.{words}

-- one call on a word of width w
abbrev pub word_does : ℕ → Change → ℕ → Done ℕ
word_does w c word = held_does (words w) c word
