pub mod Laying
pub mod Planned
pub mod Told
pub mod Given
