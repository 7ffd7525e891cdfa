pub mod Split
pub mod Fields
pub mod Command
