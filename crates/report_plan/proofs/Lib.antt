pub mod Reports
pub mod Unique
pub mod Lengths
pub mod Promised
