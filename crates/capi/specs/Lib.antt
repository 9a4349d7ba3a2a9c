-- What the calls for Rust and C answer, and what the lent buffer then holds.
pub mod Calls
pub mod Digest
pub mod Table
pub mod Query
pub mod Claims
