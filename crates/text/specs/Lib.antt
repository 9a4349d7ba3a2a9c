-- The text that is hashed, its reader, kinds and keys. Inner is what private functions hand on; Examples are worked
-- tables.
pub mod Event
pub mod Read
pub mod Kinds
pub mod Answer
pub mod Examples
pub mod Inner
