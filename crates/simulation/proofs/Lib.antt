pub mod Fit
pub mod Follows
pub mod Simulates
pub mod Laid
pub mod Started
