pub mod Nibbles
pub mod Words
