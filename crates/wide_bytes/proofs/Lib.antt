pub mod Marks
pub mod Judging
pub mod Bytes
