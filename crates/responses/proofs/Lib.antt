-- Laws of the writers of replies to a message.
pub mod Lines
pub mod Ways
