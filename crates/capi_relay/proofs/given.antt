-- Laws of a reply made of numbers.
pub mod Parts
