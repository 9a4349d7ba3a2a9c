-- Matching, Answers, Tables, Lent, ReadFilters, Asked, Listings and Unread prove the claims of specs/Claims; Worked and
-- Texts have cases by computation.
pub mod Sorting
pub mod Matching
pub mod Answers
pub mod Tables
pub mod Lent
pub mod ReadFilters
pub mod Asked
pub mod Listings
pub mod Unread
pub mod Worked
pub mod Texts
