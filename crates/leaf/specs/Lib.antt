pub mod Lists
pub mod Leaf
pub mod Search
pub mod Cut
pub mod Examples
pub mod Entries
