-- What only private contracts cite: not for an auditor.
pub mod Parts
pub mod Windows
