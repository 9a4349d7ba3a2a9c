-- What only private contracts cite: not for an auditor.
pub mod Found
pub mod Hits
pub mod Pass
pub mod Steps
pub mod Order
pub mod Finds
