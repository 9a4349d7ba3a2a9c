-- What the calls that answer messages and write replies tell Rust and C.
pub mod Counts
pub mod Reply
