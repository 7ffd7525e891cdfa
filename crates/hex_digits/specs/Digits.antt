-- Hex digits, and the numbers that they spell.
use Rattle.std.specs.Prelude.{ℕ, zero, suc, ◌+◌, ◌-◌, ◌*◌, cond, List, get_or, leb, ltb}

-- the value of a lower-case hex digit in ASCII, and 0 for any other byte
unfoldable pub digit_of : ℕ → ℕ
digit_of byte =
    cond (ltb byte 48) 0
    (cond (leb byte 57) (byte - 48) (cond (ltb byte 97) 0 (cond (leb byte 102) (byte - 97 + 10) 0)))

-- the number that k digits spell, from a place on
unfoldable pub hex_at : List ℕ → ℕ → ℕ → ℕ
hex_at text from zero = 0
hex_at text from (suc k) = hex_at text from k * 16 + digit_of (get_or text (from + k) 0)
