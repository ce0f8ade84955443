pub mod Put
pub mod Weights
pub mod Walked
pub mod Listed
pub mod Whole
