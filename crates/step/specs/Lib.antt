pub mod Records
pub mod Reasons
