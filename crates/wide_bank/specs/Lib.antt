pub mod Wides
pub mod Answers
pub mod History
