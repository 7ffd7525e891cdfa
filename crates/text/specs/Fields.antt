-- The fields of a line: a key in lower-case hex, a frame number in decimal.
use Rattle.std.specs.Prelude.{ℕ, ◌+◌, ◌-◌, ◌*◌, ◌%◌, ◌^◌, Bool, true, false, ◌&&◌, ◌||◌, not, cond, List, [], ◌∷◌, leb, ltb, eqb, length, get_or}

-- every byte passes the test
unfoldable pub every : (ℕ → Bool) → List ℕ → Bool
every test [] = true
every test (b ∷ bs) = test b && every test bs

-- the same bytes
unfoldable pub same : List ℕ → List ℕ → Bool
same [] [] = true
same [] (y ∷ ys) = false
same (x ∷ xs) [] = false
same (x ∷ xs) (y ∷ ys) = eqb x y && same xs ys

-- from one byte to another
abbrev pub between : ℕ → ℕ → ℕ → Bool
between low high b = leb low b && leb b high

-- `0` to `9`
abbrev pub is_digit : ℕ → Bool
is_digit b = between 48 57 b

-- `0` to `9` and `a` to `f`
unfoldable pub is_hex : ℕ → Bool
is_hex b = is_digit b || between 97 102 b

-- the value of a hex digit
unfoldable pub hex_value : ℕ → ℕ
hex_value b = cond (leb b 57) (b - 48) (b - 87)

-- each pair of hex digits as a byte
unfoldable pub pairs : List ℕ → List ℕ
pairs [] = []
pairs (a ∷ []) = []
pairs (a ∷ b ∷ rest) = (hex_value a * 16 + hex_value b) ∷ pairs rest

-- `-`, the empty key
abbrev pub dash : List ℕ
dash = 45 ∷ []

-- a positive even number of hex digits
unfoldable pub is_pairs : List ℕ → Bool
is_pairs field = ltb 0 (length field) && eqb (length field % 2) 0 && every is_hex field

-- a key: `-`, or pairs of hex digits
unfoldable pub is_key : List ℕ → Bool
is_key field = same field dash || is_pairs field

-- the bytes of a key: none for `-`
unfoldable pub key_in : List ℕ → List ℕ
key_in field = cond (same field dash) [] (pairs field)

-- the value of decimal digits behind a number
unfoldable pub decimal_from : ℕ → List ℕ → ℕ
decimal_from n [] = n
decimal_from n (d ∷ ds) = decimal_from (n * 10 + (d - 48)) ds

-- the number that decimal digits spell
unfoldable pub number_in : List ℕ → ℕ
number_in field = decimal_from 0 field

-- some digit, and no needless leading zero
unfoldable pub starts_right : List ℕ → Bool
starts_right field = ltb 0 (length field) && (eqb (length field) 1 || not (eqb (get_or field 0 0) 48))

-- decimal digits of a number below 2^64
unfoldable pub is_decimal : List ℕ → Bool
is_decimal field = every is_digit field && ltb (number_in field) (2 ^ 64)

-- a frame number
unfoldable pub is_frame : List ℕ → Bool
is_frame field = starts_right field && is_decimal field
