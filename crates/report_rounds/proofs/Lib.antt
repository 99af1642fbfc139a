pub mod Texts
pub mod Reports
pub mod Promised
