pub mod Judgement
pub mod History
pub mod One
pub mod InOrder
