pub mod Replies
pub mod Requests
pub mod Fits
pub mod Trees
