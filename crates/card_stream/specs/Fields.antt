-- The parser as a machine that takes one byte after the other: each field is gathered and judged once it is whole.
use Rattle.std.specs.Prelude.{ℕ, zero, suc, ◌+◌, Bool, true, false, cond, eqb, leb, ltb, length}
use mathlib.Core.List.{List, [], ◌∷◌, ◌++◌, foldl}
use Rattle.std.proofs.Math.Option.{Option, none, some}
use Rattle.order.specs.Map.{Map}
use Rattle.card_block.specs.Words.{little_endian}
use Rattle.card_stream.specs.Stream.{lacking}
use Rattle.card_stream.specs.Parse.{Parsed, wrong, right, above}

-- the field that is being read: the number of entries; an entry's length, key and frame, with the number of entries behind it;
-- or the fill, with the number of zeros that are still to come
pub data Field : Type 0 where
  counting : Field
  measuring : ℕ → Option (List ℕ) → Field
  naming : ℕ → Option (List ℕ) → ℕ → Field
  framing : ℕ → List ℕ → Field
  filling : ℕ → Field

-- where the machine stands: in a field that starts at a place, with the bytes of it that have come and the entries so far; or at a
-- wrong part
pub data Stand : Type 0 where
  stopped : ℕ → Stand
  reading : Field → ℕ → List ℕ → Map → Stand

-- how many bytes a field has
abbrev pub size : Field → ℕ
size counting = 4
size (measuring n last) = 2
size (naming n last len) = len
size (framing n key) = 8
size (filling n) = 1

-- on with s, or stopped at a place
abbrev pub or_stop : Bool → ℕ → Stand → Stand
or_stop true place s = s
or_stop false place s = stopped place

-- so many entries are to come at a place
abbrev pub to_come : ℕ → ℕ → Option (List ℕ) → Map → Stand
to_come zero place last entries = reading (filling (lacking place)) place [] entries
to_come (suc n) place last entries = reading (measuring n last) place [] entries

-- a key is whole
abbrev pub named : ℕ → Option (List ℕ) → ℕ → List ℕ → Map → Stand
named n last place key entries = or_stop (above last key) place (reading (framing n key) (place + length key) [] entries)

-- a length is whole: the key is to come, unless it is empty and so whole at once
abbrev pub measured : ℕ → Option (List ℕ) → ℕ → ℕ → Map → Stand
measured n last place zero entries = named n last place [] entries
measured n last place (suc len) entries = reading (naming n last (suc len)) place [] entries

-- a zero of the fill
abbrev pub zeroed : ℕ → ℕ → Map → Stand
zeroed zero place entries = stopped place
zeroed (suc n) place entries = reading (filling n) (place + 1) [] entries

-- a field is whole
unfoldable pub whole : Field → ℕ → List ℕ → Map → Stand
whole counting place held entries =
    or_stop (leb (little_endian 4 held) 255) place (to_come (little_endian 4 held) (place + 4) none entries)
whole (measuring n last) place held entries =
    or_stop (leb (little_endian 2 held) 256) place (measured n last (place + 2) (little_endian 2 held) entries)
whole (naming n last len) place held entries = named n last place held entries
whole (framing n key) place held entries = to_come n (place + 8) (some key) (entries ++ (key, little_endian 8 held) ∷ [])
whole (filling n) place held entries = or_stop (eqb (little_endian 1 held) 0) place (zeroed n place entries)

-- one byte more
unfoldable pub stepped : Stand → ℕ → Stand
stepped (stopped place) byte = stopped place
stepped (reading f place held entries) byte =
    cond (ltb (length held + 1) (size f)) (reading f place (held ++ byte ∷ []) entries) (whole f place (held ++ byte ∷ []) entries)

-- the bytes of an arrival, one after the other
unfoldable pub fed : Stand → List ℕ → Stand
fed s bytes = foldl stepped s bytes

-- before the first byte: the number of entries is to come
abbrev pub start : Stand
start = reading counting 0 [] []

-- no more bytes come: the stream has ended behind its fill, or in the middle of a field
unfoldable pub ended : Stand → Parsed
ended (stopped place) = wrong place
ended (reading counting place held entries) = wrong place
ended (reading (measuring n last) place held entries) = wrong place
ended (reading (naming n last len) place held entries) = wrong place
ended (reading (framing n key) place held entries) = wrong place
ended (reading (filling zero) place held entries) = right entries
ended (reading (filling (suc n)) place held entries) = wrong place
