pub mod Stream
pub mod Image
pub mod Payload
pub mod Parse
pub mod Fields
pub mod Cuts
