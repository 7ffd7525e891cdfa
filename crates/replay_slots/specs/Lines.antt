-- A line of the list: its fields, and whether its answer is what the definitions of the slot words say.
use Rattle.std.specs.Prelude.{ℕ, Bool, ◌&&◌, List, eqb}
use Rattle.hex_digits.specs.Digits.{hex_at}
use Rattle.replay_slots.specs.declared.asked.Said.{Said}
use Rattle.replay_slots.specs.Recorded.{said_of, called}

-- what the definitions say to the call that the line records
unfoldable pub replayed_of : List ℕ → Said
replayed_of text =
    said_of (called (hex_at text 2 1) (hex_at text 6 16) (hex_at text 23 16) (hex_at text 40 16) (hex_at text 57 16))

-- whether that is what the line records
unfoldable pub agreed : List ℕ → Bool
agreed text =
    eqb (replayed_of text).number (hex_at text 4 1) &&
    eqb (replayed_of text).first (hex_at text 74 16) &&
    eqb (replayed_of text).second (hex_at text 91 4) &&
    eqb (replayed_of text).third (hex_at text 96 4)
