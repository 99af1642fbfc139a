pub mod Onward
pub mod Promised
