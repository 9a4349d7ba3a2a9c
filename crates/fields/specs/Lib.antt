-- The fields of a line, the numbers that they spell, and the parts of events and filters that some of them give; what a
-- line does with a table's room. How what refuses a message is written.
pub mod Line
pub mod Number
pub mod Parts
pub mod Refusal
pub mod Room
pub mod Examples
