-- An event given as parts: its text, its id, and which of two events is newer. Inner is what private functions hand on.
pub mod Lent
pub mod Inner
pub mod Order
pub mod Answer
pub mod Sent
pub mod Examples
