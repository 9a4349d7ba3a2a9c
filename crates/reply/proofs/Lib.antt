-- Plain: a reply is one line, and no byte of it is below 20. Lent: a reply given as parts. Reasons: the reason of a
-- refusal.
pub mod Plain
pub mod Lent
pub mod Reasons
