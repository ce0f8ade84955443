pub mod Windowed
pub mod Forms
