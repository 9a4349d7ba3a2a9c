-- Turn: how much of a piece of the input a turn is given; the turn itself is program/specs/Feed. Finish: what the end
-- of the input gives. Claims: what a run of calls writes.
-- Inner: what private functions hand on.
pub mod Turn
pub mod Finish
pub mod Inner
pub mod Claims
