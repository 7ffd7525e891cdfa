pub mod Splits
pub mod Keys
pub mod Frames
pub mod Wishes
pub mod Lines
