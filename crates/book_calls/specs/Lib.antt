pub mod Calls
pub mod FaultText
pub mod Meaning
pub mod Touching
