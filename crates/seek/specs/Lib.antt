pub mod Lengths
pub mod Places
pub mod Within
pub mod Below
