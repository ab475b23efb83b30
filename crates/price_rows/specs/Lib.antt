pub mod Amounts
pub mod Rows
pub mod Reach
pub mod Taken
pub mod ErrorText
