-- the groups that are kept
pub mod Pool
-- what they say of a cover
pub mod Asking
