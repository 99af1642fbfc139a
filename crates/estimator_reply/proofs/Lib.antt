pub mod Filling
pub mod Replying
