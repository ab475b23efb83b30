pub mod Orders
pub mod OrderText
