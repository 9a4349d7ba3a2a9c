-- Characters and steps over the decoded bytes, lists that a loop passes, and what other crates may cite.
mod Chars
mod Loops
mod Runs
pub mod Laws
