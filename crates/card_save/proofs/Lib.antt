pub mod Rows
pub mod Saves
