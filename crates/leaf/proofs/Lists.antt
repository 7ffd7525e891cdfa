-- Every member, and the first that passes a test, by positions, passed on from the crates below.
pub use Rattle.lent_cells.proofs.Cells.{never, both}
pub use Rattle.leaf_entries.proofs.Lists.{and_no, every-at, every-all, every-not, every-join, every_take, every_drop}
pub use Rattle.leaf_entries.proofs.Lists.{first-at, first-none, first-le, first_passes, first-before}
pub use Rattle.leaf_entries.proofs.Lists.{get_d_map, map-append, map-take, map-drop}
