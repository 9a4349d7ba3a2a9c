-- Lines: a line's end in a piece, and what is kept of a line. Turning: the ways out of `turn` and `finish`. Run: a run
-- of calls. Room: an output that is never too short.
pub mod Lines
pub mod Turning
pub mod Run
pub mod Room
