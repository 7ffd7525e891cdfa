-- Which nodes and cells are free, passed on from the crate of the nodes and cells.
pub use Rattle.lent_nodes.specs.Free.{cons_if, is_free, frees, free_nodes, free_cells, every, lowest}
unfoldable pub use Rattle.lent_nodes.specs.Free.{passing}
