pub mod Grouping
pub mod Trying
