pub mod PutCells
pub mod Layers
pub mod Ways
pub mod Along
pub mod Puts
pub mod Needed
pub mod MoreLent
