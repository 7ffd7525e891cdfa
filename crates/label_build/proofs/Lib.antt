pub mod Bytes
pub mod One
