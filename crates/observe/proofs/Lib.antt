pub mod Counting
pub mod Firing
pub mod Passing
pub mod Signed
pub mod Holding
