pub mod Numbers
pub mod Orders
pub mod Built
pub mod Keys
