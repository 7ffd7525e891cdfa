-- Entries in key order as lent memory has them: the numbers of their cells in that order, the cells, and 256 bytes for each cell.
use Rattle.std.specs.Prelude.{ℕ, zero, suc, ◌+◌, ◌-◌, ◌*◌, ◌≤◌, ◌<◌, min, List, [], ◌∷◌, map, length, get_or}
use Rattle.order.specs.Map.{Map}
use Rattle.lent_words.specs.Parts.{part}
use Rattle.arena.specs.Layout.{mark_at, frame_at}

-- what is lent: the length, the frame and the place of each key, and the bytes of all
pub record Lent : Type 0 where
  pub lens : List ℕ
  pub frames : List ℕ
  pub places : List ℕ
  pub keys : List ℕ

-- the lengths of the keys of these cells
unfoldable pub lens_of : List ℕ → List ℕ → List ℕ
lens_of order cells = map (λ c. mark_at cells c - 1) order

-- and their frame numbers
unfoldable pub frames_of : List ℕ → List ℕ → List ℕ
frames_of order cells = map (frame_at cells) order

-- entries by their cells in key order, out of lent cells and bytes
abbrev pub lent : List ℕ → List ℕ → List ℕ → Lent
lent order cells bytes =
    record { lens = lens_of order cells; frames = frames_of order cells; places = order; keys = bytes }

-- the length of key k; none is over 256
abbrev pub len_at : Lent → ℕ → ℕ
len_at m k = min (get_or m.lens k 0) 256

-- entry k
abbrev pub entry_at : Lent → ℕ → List ℕ × ℕ
entry_at m k = (part m.keys (256 * get_or m.places k 0) (len_at m k), get_or m.frames k 0)

-- so many entries from k on
unfoldable pub entries_at : Lent → ℕ → ℕ → Map
entries_at m k zero = []
entries_at m k (suc n) = entry_at m k ∷ entries_at m (k + 1) n

-- n entries are lent whole
pub record Whole (m : Lent) (n : ℕ) : Type 0 where
  pub few : n ≤ 255
  pub lengths : n ≤ length m.places
  pub small : length m.keys ≤ 65280
  pub bytes : (k : ℕ) → k < n → 256 * get_or m.places k 0 + 256 ≤ length m.keys
