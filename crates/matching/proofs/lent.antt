-- Laws of the row of lent filters.
pub mod Rows
