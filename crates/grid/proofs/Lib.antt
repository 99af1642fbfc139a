pub mod Rows
pub mod Joined
pub mod Gathering
pub mod Counting
pub mod Checking
pub mod Summing
