pub mod Enters
pub mod Keeps
