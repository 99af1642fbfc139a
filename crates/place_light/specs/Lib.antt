-- what is observed with units added
pub mod Lights
-- on the way: ways, covers, and groups of which every cover has one
pub mod Ways
