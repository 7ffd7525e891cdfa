pub mod Rising
pub mod Places
pub mod Inserts
pub mod Whole
pub mod Judgement
pub mod Laws
