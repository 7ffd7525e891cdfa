pub mod Lent
pub mod Told
pub mod Answering
