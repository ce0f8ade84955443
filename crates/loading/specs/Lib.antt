-- The numbers and the store of a machine that is loaded.
pub mod Laid
