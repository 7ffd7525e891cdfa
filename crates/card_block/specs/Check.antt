-- The check of a block: a sum and a sum of sums over its 126 words, both running round at 2^32.
use Rattle.std.specs.Prelude.{ℕ, ◌+◌, ◌%◌, ◌^◌, Bool, ◌&&◌, List, [], ◌∷◌, ◌++◌, take, drop, ◌==◌}
use Rattle.card_block.specs.declared.Sums.{Sums}
use Rattle.card_block.specs.Words.{little_endian, low_first, words_of}

-- a sum that runs round at 2^32
abbrev pub plus : ℕ → ℕ → ℕ
plus x y = (x + y) % 2 ^ 32

-- before the first word: the block's number and one, and 0
abbrev pub first : ℕ → Sums
first number = record { a = plus number 1; b = 0 }

-- for one word: a becomes a plus the word, and b becomes b plus a
abbrev pub onward : Sums → ℕ → Sums
onward s word = record { a = plus s.a word; b = plus s.b (plus s.a word) }

-- for each word in turn
unfoldable pub through : Sums → List ℕ → Sums
through s [] = s
through s (word ∷ words) = through (onward s word) words

-- the check of block `number` whose first 504 bytes are these
unfoldable pub check_of : ℕ → List ℕ → Sums
check_of number bytes = through (first number) (words_of 126 bytes)

-- block `number`: 504 bytes, then a and b
unfoldable pub block_of : ℕ → List ℕ → List ℕ
block_of number bytes =
    take 504 bytes ++ (low_first 4 (check_of number bytes).a ++ low_first 4 (check_of number bytes).b)

-- the two words at the end of a block are the check of what stands before them
unfoldable pub good_block : ℕ → List ℕ → Bool
good_block number block =
    (little_endian 4 (drop 504 block) == (check_of number block).a) && little_endian 4 (drop 508 block) == (check_of number block).b
