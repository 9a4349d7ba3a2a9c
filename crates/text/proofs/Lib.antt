-- Laws: the two round trips and 01's sentence on a text read back (RoundTrip), the places (Places), limits by name
-- (Limits), keys (Keys), the starred cases (Cases).
pub mod Pieces
pub mod Strings
pub mod Lists
pub mod Numbers
pub mod Rows
pub mod Limits
pub mod RoundTrip
pub mod Keys
pub mod Cases
-- A law for each way out of the code.
pub mod Ways
pub mod Blocks
pub mod Windows
pub mod Fields
pub mod Named
pub mod Texts
pub mod Whole
pub mod Places
