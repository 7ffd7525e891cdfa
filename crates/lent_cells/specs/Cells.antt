-- Lent cells: their lengths, and the keys and suffixes that they store.
use Rattle.std.specs.Prelude.{ℕ, ◌≤◌, ◌<◌, ◌-◌, ◌*◌, ◌/◌, ◌%◌, ◌≡◌, Bool, ◌&&◌, List, leb, ltb, eqb, length, get_or, take, drop}
use Rattle.std.proofs.Math.Dec.{compare_is_eq}
use Rattle.memory_layout.specs.Numbers.{cell_words, cell_bytes, most_lent}
use Rattle.order.specs.Bytes.{bytewise}

-- how many cells are lent: two words each, length + 1 (0 for a free cell) and the frame number
abbrev pub cells_in : List ℕ → ℕ
cells_in cells = length cells / cell_words

-- the lent lengths are right: 1 to 255 cells of two words, and 256 bytes for each
unfoldable pub lent_right : List ℕ → List ℕ → Bool
lent_right cells bytes =
    eqb (length cells % cell_words) 0
    && (leb 1 (cells_in cells) && (leb (cells_in cells) most_lent && eqb (length bytes) (cell_bytes * cells_in cells)))

-- what right lent lengths say
pub record Lent (cells bytes : List ℕ) : Type 0 where
  pub some : 1 ≤ cells_in cells
  pub few : cells_in cells ≤ most_lent
  pub room : length bytes ≡ cell_bytes * cells_in cells

-- the length + 1 of a cell
abbrev pub length_word : List ℕ → ℕ → ℕ
length_word cells cell = get_or cells (cell_words * cell) 0

-- a cell that an entry may have: one of those lent, not free, of at most 256 bytes
unfoldable pub cell_right : List ℕ → ℕ → Bool
cell_right cells cell =
    ltb cell (cells_in cells) && (leb 1 (length_word cells cell) && leb (length_word cells cell) 257)

-- what a right cell is
pub record Cell (cells : List ℕ) (cell : ℕ) : Type 0 where
  pub lent : cell < cells_in cells
  pub taken : 1 ≤ length_word cells cell
  pub short : length_word cells cell ≤ 257

-- the stored key: the cell's bytes up to its length
abbrev pub stored_key : List ℕ → List ℕ → ℕ → List ℕ
stored_key cells bytes cell = take (length_word cells cell - 1) (drop (cell_bytes * cell) bytes)

-- the stored suffix: the cell's bytes from the key's suffix start on, or none
unfoldable pub stored_suffix : List ℕ → List ℕ → ℕ → ℕ → List ℕ
stored_suffix cells bytes cell start = drop start (stored_key cells bytes cell)

-- two suffixes are the same bytes
abbrev pub same_bytes : List ℕ → List ℕ → Bool
same_bytes a b = compare_is_eq (bytewise a b)
