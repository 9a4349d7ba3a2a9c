-- Whole numbers: how they are written, and which spellings are taken. Inner is what private functions hand on.
pub mod Decimal
pub mod Whole
pub mod Inner
pub mod Examples
