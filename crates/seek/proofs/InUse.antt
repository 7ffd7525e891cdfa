-- The entries of a leaf that are in use, passed on from the crate of the tree.
pub use Rattle.forest.proofs.InUse.{entries-length, entry_here, in_memory}
