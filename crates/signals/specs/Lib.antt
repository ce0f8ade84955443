pub mod Pass
pub mod Forms
