pub mod Counting
pub mod One
