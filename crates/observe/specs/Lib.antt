pub mod Passes
pub mod Testing
