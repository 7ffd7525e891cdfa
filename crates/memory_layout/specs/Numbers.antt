-- The numbers of docs/LAYOUT.md, by name. Code has the same ones from src/lib.rt.
use Rattle.std.specs.Prelude.{ℕ}

-- the words before node 0
abbrev pub header_words : ℕ
header_words = 2

-- the words of a node
abbrev pub node_words : ℕ
node_words = 47

-- where the fifteen ikeys of a node begin, from its first word on
abbrev pub ikeys_from : ℕ
ikeys_from = 2

-- where the fifteen classes of a leaf begin
abbrev pub classes_from : ℕ
classes_from = 17

-- where the fifteen cells or nodes that a leaf refers to begin
abbrev pub refs_from : ℕ
refs_from = 32

-- where the sixteen children of an internode begin
abbrev pub children_from : ℕ
children_from = 17

-- the words of a cell
abbrev pub cell_words : ℕ
cell_words = 2

-- the bytes of a cell: as many as the longest key has
abbrev pub cell_bytes : ℕ
cell_bytes = 256

-- the most nodes, and the most cells
abbrev pub most_lent : ℕ
most_lent = 255

-- the words of the most nodes with those before them
abbrev pub most_node_words : ℕ
most_node_words = 11987
