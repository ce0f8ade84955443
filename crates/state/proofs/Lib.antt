pub mod Folds
pub mod Frames
pub mod Places
pub mod Sets
