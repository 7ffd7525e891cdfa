-- The laws of free numbers, passed on from the crate of the nodes and cells.
pub use Rattle.lent_nodes.proofs.Frees.{First, first-passing, all-used, all_pass, passing-same, lowest-taken, fewer-free, more-free}
pub use Rattle.lent_nodes.proofs.Frees.{as-free}
