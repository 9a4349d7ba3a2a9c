-- Bytes: bytes compared, bytes that are zero. Walk: slots one after another. Pairs: no two entries alike. Fields: one
-- slot. Keys: two slots. Marks: slots told apart by numbers. Whole: the header and the whole table. Formats: a buffer
-- formatted, a slot shown.
pub mod Bytes
pub mod Walk
pub mod Pairs
pub mod Fields
pub mod Keys
pub mod Marks
pub mod Whole
pub mod Formats
