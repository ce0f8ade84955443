pub mod Alone
pub mod Inspected
pub mod Placed
pub mod Rows
pub mod Whole
pub mod Accepts
