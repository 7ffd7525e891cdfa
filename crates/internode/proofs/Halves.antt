-- A node made of lists holds them, passed on from the crate of the insertions; what the split means stands there.
pub use Rattle.internode_inserts.proofs.Halves.{node-keys}
