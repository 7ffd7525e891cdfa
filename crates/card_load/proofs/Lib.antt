pub mod Exams
pub mod Counts
pub mod Fills
