pub mod Viewed
pub mod Numbered
pub mod Clashing
pub mod Searched
