pub mod Records
pub mod Form
