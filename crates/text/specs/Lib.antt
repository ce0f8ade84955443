pub mod Walk
pub mod Gives
