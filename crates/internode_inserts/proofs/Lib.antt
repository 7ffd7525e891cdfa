pub mod Moves
pub mod Parts
pub mod Splits
pub mod Laws
pub mod Halves
