pub mod Day
pub mod Listing
