-- SHA-256 as FIPS 180-4 gives it, and a digest that is fed piece by piece. Words to Bytes are the definitions; Parts,
-- Claims, Back and Examples are theorems. Inner is for the contracts of private functions.
pub mod Words
pub mod Block
pub mod Digest
pub mod State
pub mod Bytes
pub mod Inner
pub mod Parts
pub mod Claims
pub mod Back
pub mod Examples
