-- Filters, matching, and the answer of a REQ. Claims has what is claimed of them.
pub mod Filter
pub mod Match
pub mod Answer
pub mod Claims
