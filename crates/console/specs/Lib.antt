pub mod Ascii
pub mod Page
pub mod Shown
pub mod Words
pub mod Steps
pub mod Digits
pub mod Commands
