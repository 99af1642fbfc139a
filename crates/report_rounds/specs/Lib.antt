pub mod Rounds
pub mod Lines
