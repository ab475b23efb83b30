pub mod Numbers
pub mod Keeping
pub mod Places
pub mod Walking
