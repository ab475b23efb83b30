pub mod Once
pub mod Telling
