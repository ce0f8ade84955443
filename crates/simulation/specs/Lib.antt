-- The machine's calls follow document 01's machine, and what holds of fit and unfit states.
pub mod Simulates
pub mod Fit
pub mod Loads
