-- Laws of the writers of EVENTs.
pub mod Pieces
pub mod Answers
pub mod Lines
pub mod Batches
