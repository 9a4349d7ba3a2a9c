-- Laws of the writers of replies.
pub mod Written
