-- The entries of a leaf in order, by positions of its slot word, passed on from the crate of the entries.
pub use Rattle.leaf_entries.proofs.Views.{length-viewed, viewed-at, good-word, size-in-width, length-in-order, entry-in-order}
