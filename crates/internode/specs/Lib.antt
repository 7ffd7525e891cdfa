pub mod Lists
pub mod Node
pub mod Split
pub mod Answers
pub mod Calls
