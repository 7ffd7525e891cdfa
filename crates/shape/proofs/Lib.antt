pub mod Zeros
pub mod Internodes
