pub mod Prices
pub mod Nearest
pub mod Bands
pub mod Sound
pub mod TablePrices
