-- What the code of a table goes by. Slots: one slot and two slots, by their bytes. Marks: numbers that tell slots apart
-- at once. Shown: what showing a slot answers. Whether a table is sound, a formatted table and the bytes shown are
-- table/specs.
pub mod Slots
pub mod Marks
pub mod Shown
