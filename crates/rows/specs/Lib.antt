-- Rows 1 to 4 of 01 over a whole text. Inner is what private functions hand on: no public promise rests on it. That
-- spell's count of characters is the number of UTF8-char of RFC 3629: proofs/Counted.
pub mod Strings
pub mod Rows
pub mod Inner
