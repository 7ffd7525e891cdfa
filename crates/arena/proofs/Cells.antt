-- The laws of cells, passed on from the crate of the nodes and cells.
pub use Rattle.lent_nodes.proofs.Cells.{
  cells-apart,
  keys-apart,
  key-length,
  cell-stored,
  cell-kept,
  mark-kept,
  cells-length,
  mark-stored,
  frame-stored,
  mark-freed,
  bytes-stored,
  bytes-kept,
  bytes-length,
  key-stored,
}
