-- Ends: a line without 0A, and a byte more of it.
pub mod Ends
