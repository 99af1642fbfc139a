-- how a group is found
pub mod Shrinking
-- which sites are tried
pub mod Branches
