-- RFC 8259: its rules from place to place, and the tree that they read. That these take just what the RFC's rules take:
-- crate grammar.
pub mod Grammar
pub mod Tree
pub mod Examples
