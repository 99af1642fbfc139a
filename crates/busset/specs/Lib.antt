pub mod Sets
pub mod Held
pub mod Bytes
pub mod Walking
