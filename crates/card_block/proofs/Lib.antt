pub mod Words
pub mod Checks
pub mod OneWord
pub mod Written
pub mod Filled
