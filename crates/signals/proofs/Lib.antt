pub mod Passes
pub mod Steps
pub mod Standing
pub mod Lives
