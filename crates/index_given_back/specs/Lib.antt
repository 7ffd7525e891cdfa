pub mod GaveBack
pub mod Emptied
