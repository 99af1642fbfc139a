pub mod Joining
pub mod Going
pub mod Ends
pub mod Putting
pub mod Refusing
