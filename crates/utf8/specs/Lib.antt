-- RFC 3629. Abnf is its grammar as rules, which Utf8 is proved to agree with; Inner is what private functions hand on.
pub mod Utf8
pub mod Abnf
pub mod Inner
pub mod Examples
