pub mod Crossing
pub mod Told
