pub mod Fitting
pub mod Calls
