pub mod Lists
pub mod Bank
pub mod Calls
pub mod History
pub mod Holder
pub mod Judged
