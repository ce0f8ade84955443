pub mod Walks
pub mod Steps
pub mod Running
pub mod Tables
pub mod Formed
pub mod Parted
