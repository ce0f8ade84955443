pub mod Windows
pub mod Periods
