-- The stream: what the writer makes of the entries of an index.
use Rattle.std.specs.Prelude.{ℕ, ◌+◌, ◌*◌, ◌-◌, ◌/◌, ◌^◌, ◌<◌, ◌≤◌, List, ◌++◌, length}
use Rattle.order.specs.Bytes.{Bytes}
use Rattle.order.specs.Map.{All, Map, Rising}
use Rattle.order.specs.Lists.{flattened}
use Rattle.lent_words.specs.Parts.{zeros}
use Rattle.card_block.specs.Words.{low_first}

-- an entry: the length of its key in two bytes, the key, the frame in eight
unfoldable pub entry_bytes : List ℕ × ℕ → List ℕ
entry_bytes e = low_first 2 (length e.0) ++ (e.0 ++ low_first 8 e.1)

-- the number of entries in four bytes, then each entry
unfoldable pub unfilled : Map → List ℕ
unfilled entries = low_first 4 (length entries) ++ flattened entry_bytes entries

-- how many bytes are lacking to a multiple of 504
unfoldable pub lacking : ℕ → ℕ
lacking n = 504 * ((n + 503) / 504) - n

-- the stream: zero-filled to a multiple of 504
unfoldable pub stream_of : Map → List ℕ
stream_of entries = unfilled entries ++ zeros (lacking (length (unfilled entries)))

-- an entry that an index can hold
pub record Holdable (e : List ℕ × ℕ) : Type 0 where
  pub bytes : Bytes e.0
  pub short : length e.0 ≤ 256
  pub frame : e.1 < 2 ^ 64

-- entries that an index can hold, in key order
pub record Writable (entries : Map) : Type 0 where
  pub few : length entries ≤ 255
  pub rising : Rising entries
  pub each : All Holdable entries
