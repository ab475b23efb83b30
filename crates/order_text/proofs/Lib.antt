pub mod Back
pub mod Few
