pub mod Set
pub mod Kept
pub mod Cells
pub mod Lent
