pub mod Searching
pub mod Deriving
pub mod Replies
