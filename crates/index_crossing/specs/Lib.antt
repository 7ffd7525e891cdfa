pub mod Lent
pub mod Both
