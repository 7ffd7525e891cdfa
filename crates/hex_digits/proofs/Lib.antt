mod Digits
pub mod Agree
