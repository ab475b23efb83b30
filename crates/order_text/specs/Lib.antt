pub mod Meaning
pub mod Asking
pub mod Listing
pub mod FaultText
pub mod ReadErrorText
