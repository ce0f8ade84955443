-- The machine's calls on its state.
pub mod Calls
pub mod Started
pub mod Load
pub mod Gives
