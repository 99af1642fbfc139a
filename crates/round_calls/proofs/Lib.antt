pub mod Writing
pub mod Promised
