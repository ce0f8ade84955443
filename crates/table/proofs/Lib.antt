pub mod Totals
pub mod Meeting
pub mod Clashes
pub mod Says
pub mod Read
pub mod Exact
