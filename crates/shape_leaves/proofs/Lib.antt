pub mod Zeros
pub mod Leaves
