pub mod Following
pub mod Replies
