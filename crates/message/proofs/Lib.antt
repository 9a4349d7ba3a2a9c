-- Walks and Elements have what a reader of lists and of parts needs of the tree.
mod Scalars
pub mod Walks
pub mod Elements
pub mod Found
pub mod Reading
mod Worded
pub mod Order
pub mod Ranks
mod Edges
pub mod Facts
mod Clean
pub mod Passes
pub mod Taken
pub mod Checked
