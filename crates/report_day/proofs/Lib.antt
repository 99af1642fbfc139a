pub mod Texts
pub mod Reports
pub mod Days
pub mod Promised
