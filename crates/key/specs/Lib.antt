pub mod Said
pub mod Keys
pub mod Layers
pub mod Parts
