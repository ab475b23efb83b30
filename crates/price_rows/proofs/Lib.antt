pub mod Members
pub mod Rising
pub mod Reaching
pub mod Climb
