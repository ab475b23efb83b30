pub mod Slicing
