-- Rows 1 to 8 of a client message (01). Shape and Rows say what they are, Lowest what it is that one holds; Inner is
-- what the code goes by.
pub mod Shape
pub mod Rows
pub mod Lowest
pub mod Offsets
pub mod Earliest
pub mod Inner
pub mod Values
