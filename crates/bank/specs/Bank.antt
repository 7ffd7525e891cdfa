-- A bank of slots, whatever holds it: a slot word, or the bytes of a wide bank.
use Rattle.std.specs.Prelude.{ℕ, ◌+◌, ◌-◌, Bool, cond, ◌&&◌, List, length, get_or, take, ltb, leb}
use Rattle.bank.specs.Lists.{turned, swapped, each_once, place_of, listed}

-- How many slots are in use, and the slots by position. There are as many positions as the bank is wide; those below the
-- size are in use, the rest are free.
pub record Bank : Type 0 where
  pub size : ℕ
  pub slots : List ℕ

-- how many positions there are
abbrev pub width : Bank → ℕ
width b = length b.slots

-- the size is at most W, and the W positions hold 0 to W-1 once each
unfoldable pub valid : Bank → Bool
valid b = leb b.size (width b) && each_once b.slots

-- the slot at a position
abbrev pub slot_at : ℕ → Bank → ℕ
slot_at i b = get_or b.slots i 0

-- the position in use that holds a slot, or the size where none does
abbrev pub place_in_use : ℕ → Bank → ℕ
place_in_use s b = place_of s (take b.size b.slots)

-- what position i holds in the sorted bank of width W with n slots taken: i for i < n, and W-1-(i-n) above
abbrev pub sorted_at : ℕ → ℕ → ℕ → ℕ
sorted_at w n i = cond (ltb i n) i (w - 1 - (i - n))

-- that bank, its first n positions in use; with none taken it is the empty bank, whose position i holds W-1-i
unfoldable pub sorted : ℕ → ℕ → Bank
sorted w n = record { size = n; slots = listed (sorted_at w n) 0 w }

-- the slot at W-1 goes to i, old positions i to W-2 move up one, one more is in use
abbrev pub inserted_from_back : ℕ → Bank → Bank
inserted_from_back i b = record { size = b.size + 1; slots = turned i (width b - 1) (width b) b.slots }

-- positions i+1 to size-1 move down one, the removed slot goes to size-1, then the size falls by one
abbrev pub removed : ℕ → Bank → Bank
removed i b = record { size = b.size - 1; slots = turned i (i + 1) b.size b.slots }

-- the opposite of a removal: the first free slot, at position size, goes to i, old positions i to size-1 move up one, one more is in
-- use
abbrev pub inserted_first_free : ℕ → Bank → Bank
inserted_first_free i b = record { size = b.size + 1; slots = turned i b.size (b.size + 1) b.slots }

-- positions i+1 to W-1 move down one, the removed slot goes to W-1, the size falls by one
abbrev pub removed_to_back : ℕ → Bank → Bank
removed_to_back i b = record { size = b.size - 1; slots = turned i (i + 1) (width b) b.slots }

-- positions i to W-1 become old j to W-1, then old i to j-1
abbrev pub rotated : ℕ → ℕ → Bank → Bank
rotated i j b = record { size = b.size; slots = turned i j (width b) b.slots }

-- two positions change places
abbrev pub exchanged : ℕ → ℕ → Bank → Bank
exchanged i j b = record { size = b.size; slots = swapped i j b.slots }

-- only the size changes
abbrev pub resized : ℕ → Bank → Bank
resized n b = record { size = n; slots = b.slots }
