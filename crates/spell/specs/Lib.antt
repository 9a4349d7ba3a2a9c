-- Strings as spelled between their quotes, and what they decode to. Inner is what private functions hand on.
pub mod Spell
pub mod Inner
pub mod Examples
