pub mod Put
pub mod Figures
pub mod Numbers
pub mod Cases
