pub mod Uses
pub mod Planning
pub mod Gives
