pub mod Counted
pub mod Table
pub mod One
