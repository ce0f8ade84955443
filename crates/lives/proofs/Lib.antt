pub mod Along
pub mod Held
pub mod Few
pub mod Found
pub mod Says
pub mod Exact
