-- Laws of the bytes of the filters asked so far, and of the whole answer.
pub mod Asked
