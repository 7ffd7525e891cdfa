-- What is said of one leaf, re-exported for the crates above.
pub use Rattle.leaf.specs.Entries.{Entry, changed, made_sorted}
pub use Rattle.leaf.specs.Leaf.{none, rank, less}
pub use Rattle.leaf.specs.Search.{place_greater, place_equal, same_bytes}
pub use Rattle.leaf.specs.Cut.{ikey_of, cut_of}
