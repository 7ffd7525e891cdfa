-- A leaf's entries in order, what document 01 asks of them, and the lent cells, passed on from the crates below.
pub use Rattle.leaf_entries.specs.Leaf.{none, slots_in_use, slots_of, entries_in_order, laid, rank, against, is_less, less, less_than_first}
unfoldable pub use Rattle.leaf_entries.specs.Leaf.{viewed, rising, of_kind, good_entries}
pub use Rattle.lent_cells.specs.Cells.{cells_in, Lent, length_word, Cell}
unfoldable pub use Rattle.lent_cells.specs.Cells.{lent_right, cell_right}
