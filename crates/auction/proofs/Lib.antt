pub mod Unbeaten
pub mod Chosen
pub mod Deciding
pub mod BestPrice
pub mod Answering
