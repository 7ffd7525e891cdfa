pub mod Readings
pub mod One
