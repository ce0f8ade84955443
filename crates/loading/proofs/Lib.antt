pub mod Stretch
pub mod Sums
