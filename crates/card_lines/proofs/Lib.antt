pub mod Prints
pub mod Images
