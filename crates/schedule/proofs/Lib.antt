pub mod Puts
pub mod Wrote
