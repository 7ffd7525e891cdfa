-- What the blocks of an image hold, and the first of them with a bad check.
use Rattle.std.specs.Prelude.{ℕ, zero, suc, ◌+◌, ◌*◌, cond, List, [], ◌++◌}
use Rattle.lent_words.specs.Parts.{part, put_part}
use Rattle.card_block.specs.Check.{good_block}

-- the bytes of the stream in the first n blocks
unfoldable pub payload : ℕ → List ℕ → List ℕ
payload zero image = []
payload (suc n) image = payload n image ++ part image (512 * n) 504

-- of so many blocks from i on, the first with a bad check, or the one behind them
unfoldable pub first_bad : ℕ → ℕ → List ℕ → ℕ
first_bad i zero image = i
first_bad i (suc n) image = cond (good_block i (part image (512 * i) 512)) (first_bad (i + 1) n image) i

-- an image with four other bytes in the place of word k of block i
abbrev pub changed : List ℕ → ℕ → ℕ → List ℕ → List ℕ
changed image i k word = put_part image (512 * i + 4 * k) word
