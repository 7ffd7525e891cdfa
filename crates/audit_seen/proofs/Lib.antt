pub mod Numbers
pub mod Rests
