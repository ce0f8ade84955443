pub mod Lives
pub mod Values
pub mod Gives
