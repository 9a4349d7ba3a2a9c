-- Places serves the code's proofs. Names, on equal names, and Low, on the least of rows, are for others too.
mod Places
pub mod Names
mod Bits
pub mod Low
mod Never
mod Leaves
mod Lists
mod Placed
mod Told
mod Standing
mod Rowed
mod Objects
mod Known
mod Events
mod Filters
mod Messages
mod Openings
mod Values
pub mod Exact
pub mod Offsets
pub mod Earliest
mod Walks
