pub mod Says
pub mod Leaves
pub mod After
pub mod Room
pub mod Index
pub mod Count
pub mod Tallied
