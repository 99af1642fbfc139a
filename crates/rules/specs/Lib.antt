-- The definitions of documents 01 and 02, to be read in this order.
-- the grid, lines, and when a grid is proper
pub mod Grids
-- the two rules, and the observed set
pub mod Observation
-- reasons, steps, and lists of steps
pub mod Steps
-- the derivation: the one fixed finished list
pub mod Derivation
-- the firing figure
pub mod Figures
-- weaving a received list, and shuffles of the desks' lists
pub mod Weaving
-- cross-validation: which units confirm each other
pub mod Confirming
-- additions of new units, and the fewest
pub mod Placing
-- greedy: the site that it adds
pub mod Choosing
-- observation in rounds, as document 02 asks for it
pub mod Rounds
