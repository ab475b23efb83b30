pub mod Shifting
pub mod Placing
pub mod Searching
pub mod Changing
