pub mod Lists
pub mod Leaf
pub mod Sorting
