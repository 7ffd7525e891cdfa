pub mod Lists
pub mod Node
