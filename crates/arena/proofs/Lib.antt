pub mod Words
pub mod Nodes
pub mod Cells
pub mod Frees
pub mod Measures
pub mod Clears
pub mod One
pub mod Refused
