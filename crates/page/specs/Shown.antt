-- Printed forms, each line with its line feed.
use Rattle.std.specs.Prelude.{ℕ, zero, suc, ◌+◌, ◌/◌, ◌%◌, cond, List, [], ◌∷◌, ◌++◌, ltb}
use Rattle.text.specs.Fields.{dash}

-- the last digits of a number, at most so many
unfoldable pub last_digits : ℕ → ℕ → List ℕ
last_digits zero n = []
last_digits (suc most) n = cond (ltb n 10) ((48 + n) ∷ []) (last_digits most (n / 10) ++ ((48 + n % 10) ∷ []))

-- a number in decimal; no number has more digits than it has units, and 1
unfoldable pub decimal : ℕ → List ℕ
decimal n = last_digits (suc n) n

-- `0` to `9`, then `a` to `f`
unfoldable pub hex_digit : ℕ → ℕ
hex_digit n = cond (ltb n 10) (48 + n) (87 + n)

-- two hex digits for each byte
unfoldable pub hex_of : List ℕ → List ℕ
hex_of [] = []
hex_of (b ∷ bs) = hex_digit (b / 16) ∷ hex_digit (b % 16) ∷ hex_of bs

-- a key: `-` where it is empty
unfoldable pub key_shown : List ℕ → List ℕ
key_shown [] = dash
key_shown (b ∷ bs) = hex_of (b ∷ bs)

-- the line feed
abbrev pub line_feed : List ℕ
line_feed = 10 ∷ []

-- `ok`
abbrev pub ok_line : List ℕ
ok_line = 111 ∷ 107 ∷ 10 ∷ []

-- `bad line`
abbrev pub bad_line : List ℕ
bad_line = 98 ∷ 97 ∷ 100 ∷ 32 ∷ 108 ∷ 105 ∷ 110 ∷ 101 ∷ 10 ∷ []

-- what stands before the number of a refusal
abbrev pub refused_word : List ℕ
refused_word = 114 ∷ 101 ∷ 102 ∷ 117 ∷ 115 ∷ 101 ∷ 100 ∷ 32 ∷ []

-- `refused N`
unfoldable pub refused_line : ℕ → List ℕ
refused_line n = refused_word ++ decimal n ++ line_feed

-- a number alone
unfoldable pub number_line : ℕ → List ℕ
number_line n = decimal n ++ line_feed

-- what stands behind the number of entries
abbrev pub entries_word : List ℕ
entries_word = 32 ∷ 101 ∷ 110 ∷ 116 ∷ 114 ∷ 105 ∷ 101 ∷ 115 ∷ 10 ∷ []

-- `N entries`
unfoldable pub header_line : ℕ → List ℕ
header_line n = decimal n ++ entries_word

-- `KEY FRAME`
unfoldable pub entry_line : List ℕ → ℕ → List ℕ
entry_line key frame = key_shown key ++ (32 ∷ []) ++ decimal frame ++ line_feed
