-- The laws of nodes, passed on from the crate of the nodes and cells.
pub use Rattle.lent_nodes.proofs.Nodes.{
  leaf-length,
  internode-length,
  free-length,
  leaf-words,
  internode-words,
  nodes-apart,
  node-stored,
  node_kept,
  kind-stored,
  kind-kept,
  head-kept,
  nodes-length,
  leaf-stored,
  internode-stored,
  node-freed,
  word-loaded,
}
