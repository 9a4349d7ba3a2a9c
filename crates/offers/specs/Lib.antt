-- Row: 01's number of what an offer is answered. Taken: a message read, and offered if it is an EVENT. Demand3: what a
-- list of calls leaves. Inner: an offer by the bytes of the slot that it would fill, as the code has it.
pub mod Row
pub mod Inner
pub mod Taken
pub mod Demand3
