pub mod Nodes
pub mod Cells
pub mod Frees
pub mod Counts
