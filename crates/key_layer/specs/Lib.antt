pub mod Said
pub mod Keys
