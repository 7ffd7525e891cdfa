pub mod Audited
