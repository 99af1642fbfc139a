pub mod Keeping
pub mod Saying
