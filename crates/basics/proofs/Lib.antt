pub mod Tests
pub mod Lacking
