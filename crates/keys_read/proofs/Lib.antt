pub mod Ikeys
