pub mod Rounding
pub mod Runs
pub mod Tables
pub mod Holding
