pub mod Lent
pub mod Removing
