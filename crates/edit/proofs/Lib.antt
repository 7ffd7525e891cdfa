pub mod Internodes
