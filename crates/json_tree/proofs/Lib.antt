-- For other crates: Trees, by which a walk over a text is proved; Spelled, strings and their spelling; Ends, where
-- things end; Bytes, runs of bytes.
pub mod Bytes
pub mod Deeper
pub mod Ends
pub mod Spelled
pub mod Trees
