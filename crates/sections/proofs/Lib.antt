pub mod Few
pub mod Sectioned
pub mod Taken
pub mod Windowed
