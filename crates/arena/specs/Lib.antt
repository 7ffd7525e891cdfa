pub mod Parts
pub mod Layout
pub mod Free
pub mod Memory
