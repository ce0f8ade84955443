pub mod Merged
pub mod Alone
pub mod Lesser
