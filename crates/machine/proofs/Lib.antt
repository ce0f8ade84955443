pub mod Counted
pub mod Load
pub mod Same
