pub mod History
pub mod InOrder
pub mod One
