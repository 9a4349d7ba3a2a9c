-- Starred: the starred cases of 01. Example: the program's output on 01's four lines. Accepted: an EVENT is stored and
-- given back to a REQ. Which, Shown: which replies a message gets. Lines: the program's lines. Kept: its table stays
-- sound, and demand 3 holds of it. Offered: an offer's answer as a number. Worked: replies by computation. Respond,
-- Streamed: one message answered at once, or a reply at a time. Feed: the program as a state that bytes are fed to.
-- Sizes, Enough: how long replies are, and an output that is never too short. Members, Spelled, Ordered, Sendable: each
-- event within the limits has a valid message, if that is short enough. Same: what small tables and short messages get.
pub mod Starred
pub mod Example
pub mod Lines
pub mod Which
pub mod Shown
pub mod Worked
pub mod Kept
pub mod Accepted
pub mod Offered
pub mod Respond
pub mod Streamed
pub mod Feed
pub mod Sizes
pub mod Enough
pub mod Members
pub mod Spelled
pub mod Ordered
pub mod Sendable
pub mod Same
