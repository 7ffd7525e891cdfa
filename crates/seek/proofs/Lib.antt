pub mod Lengths
pub mod InUse
pub mod Down
pub mod Seeks
pub mod Reaches
