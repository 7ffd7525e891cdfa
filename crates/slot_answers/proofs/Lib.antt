pub mod Judgement
pub mod Calls
pub mod Making
