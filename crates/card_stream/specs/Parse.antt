-- The parser: the entries of a stream, or the place where its first wrong part starts.
use Rattle.std.specs.Prelude.{ℕ, zero, suc, ◌+◌, Bool, true, false, List, [], ◌∷◌, eqb, leb, length, take, drop}
use Rattle.std.proofs.Math.Option.{Option, none, some}
use Rattle.order.specs.Bytes.{bytewise}
use Rattle.order.specs.Map.{Map, pick}
use Rattle.card_block.specs.Words.{little_endian}
use Rattle.card_stream.specs.Stream.{lacking}

-- what a stream comes to
pub data Parsed : Type 0 where
  wrong : ℕ → Parsed
  right : Map → Parsed

-- the part that starts at a place is as it must be, or it is the first wrong one
abbrev pub asks : Bool → ℕ → Parsed → Parsed
asks true place rest = rest
asks false place rest = wrong place

-- an entry in front of what the rest comes to
abbrev pub infront : List ℕ × ℕ → Parsed → Parsed
infront e (wrong place) = wrong place
infront e (right entries) = right (e ∷ entries)

-- a key is above the one before, if there is one
abbrev pub above : Option (List ℕ) → List ℕ → Bool
above none key = true
above (some last) key = pick (bytewise last key) true false false

-- the fill: so many zeros, and no block left over
unfoldable pub fill_from : ℕ → ℕ → List ℕ → Parsed
fill_from zero place [] = right []
fill_from zero place (x ∷ bytes) = wrong place
fill_from (suc n) place [] = wrong place
fill_from (suc n) place (x ∷ bytes) = asks (eqb x 0) place (fill_from n (place + 1) bytes)

-- so many entries from a place on, behind a key, and the fill: an entry's length, key and frame, each judged once it is whole
unfoldable pub entries_from : ℕ → ℕ → Option (List ℕ) → List ℕ → Parsed
entries_from zero place last bytes = fill_from (lacking place) place bytes
entries_from (suc n) place last bytes =
    let len = little_endian 2 bytes in
    let key = take len (drop 2 bytes) in
    asks (leb 2 (length bytes)) place
    (asks (leb len 256) place
    (asks (leb len (length (drop 2 bytes))) (place + 2)
    (asks (above last key) (place + 2)
    (asks (leb 8 (length (drop (2 + len) bytes))) (place + (2 + len))
    (infront (key, little_endian 8 (drop (2 + len) bytes)) (entries_from n (place + (10 + len)) (some key) (drop (10 + len) bytes)))))))

-- the whole stream: the number of entries, then each
unfoldable pub parse : List ℕ → Parsed
parse bytes =
    asks (leb 4 (length bytes)) 0
    (asks (leb (little_endian 4 bytes) 255) 0
    (entries_from (little_endian 4 bytes) 4 none (drop 4 bytes)))
