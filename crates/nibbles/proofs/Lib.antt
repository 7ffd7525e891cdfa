pub mod Nibbles
pub mod Marks
pub mod Words
