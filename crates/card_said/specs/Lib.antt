pub mod Save
pub mod Load
