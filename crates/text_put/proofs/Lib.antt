pub mod Putting
pub mod Left
pub mod Whole
