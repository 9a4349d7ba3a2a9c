-- Left: how many bytes the EVENTs of some slots take, and what they leave of a room. Inner: what the writers of EVENTs
-- hand on to each other.
pub mod Left
pub mod Inner
