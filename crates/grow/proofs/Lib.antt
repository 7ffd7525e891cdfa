pub mod Needed
pub mod Layers
