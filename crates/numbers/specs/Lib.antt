-- Parts of messages and texts as rows of numbers, both ways; Claims says that what was read comes back.
pub mod Numbers
pub mod Parts
pub mod Claims
