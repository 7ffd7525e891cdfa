pub mod Loads
pub mod Heard
