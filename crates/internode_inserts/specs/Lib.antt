pub mod Insert
pub mod Split
