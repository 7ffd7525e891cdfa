pub mod Fitting
pub mod Layers
pub mod One
pub mod Telling
