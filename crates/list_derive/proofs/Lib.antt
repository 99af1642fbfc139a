pub mod Nexting
pub mod Extending
pub mod Siteless
pub mod Promised
