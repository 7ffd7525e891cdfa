pub mod Recorded
pub mod Lines
