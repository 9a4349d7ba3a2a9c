-- Turns: what a turn leaves of the buffers, and that the turns of a chunk come to an end.
pub mod Turns
