-- the limits of documents 01 and 02
pub mod Limits
-- what all buses are joined to, and by how many circuits
pub mod Rows
-- the case value: its view as a grid, and when it is valid
pub mod Cases
-- how the counts of circuits are checked
pub mod Counting
-- a set of buses with their neighbours
pub mod Near
