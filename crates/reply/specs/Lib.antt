-- The five replies, as texts and as lent parts. Claims: what they mean. Examples: worked replies and every reason.
pub mod Replies
pub mod Lent
pub mod Claims
pub mod Examples
