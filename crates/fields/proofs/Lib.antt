-- Fields: a line's fields, and what is written. Numbers: the digits of a number.
pub mod Fields
pub mod Numbers
