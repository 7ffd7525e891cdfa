pub mod Folds
pub mod ReadBack
pub mod OnlyWritten
pub mod Bytewise
pub mod Images
pub mod ReadImage
pub mod Changed
pub mod Accepted
