pub mod Payloads
pub mod Ends
