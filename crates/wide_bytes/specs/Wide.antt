-- Wide banks: a bank of width 16 to 24 in 25 bytes.
use Rattle.std.specs.Prelude.{ℕ, ◌+◌, ◌-◌, Bool, ◌&&◌, List, ◌∷◌, ◌++◌, get_or, take, drop, replicate, leb, eqb}
use Rattle.std.specs.List.{list_all}
use Rattle.bank.specs.Bank.{Bank, width, valid}
use Rattle.bank.specs.Holder.{Holder}

-- byte 0 holds the size; position i (0 to W-1) is byte i+1
abbrev pub bank_of : ℕ → List ℕ → Bank
bank_of w bytes = record { size = get_or bytes 0 0; slots = take w (drop 1 bytes) }

-- the bytes that pack a bank; those past position W-1 are 0
abbrev pub bytes_of : Bank → List ℕ
bytes_of b = b.size ∷ (b.slots ++ replicate (24 - width b) 0)

-- refusal 1: the width is 16 to 24
abbrev pub good_width : ℕ → Bool
good_width w = leb 16 w && leb w 24

-- every byte is 0
abbrev pub all_zero : List ℕ → Bool
all_zero xs = list_all (λ x. eqb x 0) xs

-- refusal 2: the size and the positions are a valid bank's, and all bytes past them are 0
unfoldable pub valid_bytes : ℕ → List ℕ → Bool
valid_bytes w bytes = valid (bank_of w bytes) && all_zero (drop (w + 1) bytes)

-- 25 bytes are what holds a bank of width w, and an answer tells them one after the other
abbrev pub wides : ℕ → Holder (List ℕ)
wides w =
    record {
      good_width = good_width w;
      valid = valid_bytes w;
      bank_of = bank_of w;
      held_of = bytes_of;
      values = λ bytes. bytes;
      places = 25;
      read = take 25;
    }
