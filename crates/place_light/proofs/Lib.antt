pub mod Lighting
pub mod Searching
pub mod Covers
