pub mod Cells
pub mod Counting
pub mod Writing
