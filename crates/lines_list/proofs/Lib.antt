pub mod Rooms
pub mod Listings
pub mod Parts
