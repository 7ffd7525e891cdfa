-- An insertion into a node with zeros behind its keys, passed on from the crate of the insertions.
pub use Rattle.internode_inserts.proofs.Splits.{node-inserted}
