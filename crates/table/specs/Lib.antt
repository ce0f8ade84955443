pub mod Forms
pub mod Said
pub mod Gives
