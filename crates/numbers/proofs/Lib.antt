-- For other crates: Laws, how many numbers filters have; Back, that parts are read back as they were written.
pub mod Laws
pub mod Back
pub mod Rows
