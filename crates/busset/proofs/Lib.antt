pub mod Digits
pub mod Sums
pub mod Sizes
pub mod Members
pub mod Words
pub mod Holding
pub mod Packing
