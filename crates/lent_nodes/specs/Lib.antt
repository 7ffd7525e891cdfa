pub mod Layout
pub mod Free
