-- Frame labels of both editions: their fields, their bytes, and the order of fields.
use Prim.Native.Nat.{ℕ, zero, suc, ◌/◌, ◌%◌, ◌^◌, ◌<◌, compare, Ordering}
use Rattle.std.specs.Prelude.{◌≡◌, List, [], ◌∷◌, ◌++◌}
use Rattle.order.specs.Bytes.{then}

-- the editions
pub data Edition : Type 0 where
  first : Edition
  second : Edition

-- what a label says of a frame
pub record Fields : Type 0 where
  pub station : ℕ
  pub burst : ℕ
  pub frame : ℕ

-- these fields, by their order in a label
abbrev pub fields : ℕ → ℕ → ℕ → Fields
fields station burst frame = record { station = station; burst = burst; frame = frame }

-- the byte that the labels of an edition start with
abbrev pub byte_of : Edition → ℕ
byte_of first = 1
byte_of second = 2

-- how many bytes its frame numbers have
abbrev pub frame_bytes : Edition → ℕ
frame_bytes first = 1
frame_bytes second = 2

-- the n bytes of a number, the highest first
unfoldable pub high_first : ℕ → ℕ → List ℕ
high_first zero x = []
high_first (suc n) x = x / 256 ^ n ∷ high_first n (x % 256 ^ n)

-- a label: the edition's byte, two bytes of station, four of burst, then the frame
abbrev pub label_of : Edition → Fields → List ℕ
label_of e x =
    byte_of e ∷ (high_first 2 x.station ++ (high_first 4 x.burst ++ high_first (frame_bytes e) x.frame))

-- the labels of an edition have room for these fields
pub record Fits (e : Edition) (x : Fields) : Type 0 where
  pub station-fits : x.station < 256 ^ 2
  pub burst-fits : x.burst < 256 ^ 4
  pub frame-fits : x.frame < 256 ^ frame_bytes e

-- these bytes are the label of some fields
pub record WasBuilt (label : List ℕ) : Type 0 where
  pub edition : Edition
  pub says : Fields
  pub fit : Fits edition says
  pub built : label ≡ label_of edition says

-- the order of station, then burst, then frame
abbrev pub by_fields : Fields → Fields → Ordering
by_fields x y = then (compare x.station y.station) (then (compare x.burst y.burst) (compare x.frame y.frame))
