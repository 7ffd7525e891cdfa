pub mod Puts
pub mod Rises
pub mod Loaded
