pub mod Lists
pub mod Orders
pub mod Views
pub mod Judged
pub mod Sorting
