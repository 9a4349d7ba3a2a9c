-- Fit has what other crates may cite: parts that pass the rows spell an event within the limits, and parts that decode
-- alike have one text. Forms, Strings, Walks, Answers and Decoded are open too, for the converse: what a table holds passes
-- the rows when it is offered again.
pub mod Forms
pub mod Strings
pub mod Walks
mod Tags
mod Text
mod Lengths
mod Order
pub mod Answers
pub mod Decoded
mod Complete
pub mod Sent
pub mod Fit
pub mod TwoEvents
