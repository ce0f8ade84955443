-- The machine's numbers in one list with named parts.
pub mod Parts
pub mod Sides
pub mod Fitness
pub mod Rows
