-- A client message read. Claims: what was read passes as lent parts. Inner is what private functions hand on.
pub mod Parts
pub mod Lists
pub mod Read
pub mod Lent
pub mod Claims
pub mod Inner
