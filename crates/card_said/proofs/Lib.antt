pub mod Ruled
pub mod Written
pub mod Words
