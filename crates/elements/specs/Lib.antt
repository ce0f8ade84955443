pub mod Steps
pub mod Pass
