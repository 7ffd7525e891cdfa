pub mod Parts
pub mod Inputs
