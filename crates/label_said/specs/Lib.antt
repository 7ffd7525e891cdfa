pub mod Label
pub mod Read
