pub mod Wides
pub mod Answers
