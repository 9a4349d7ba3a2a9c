-- The table: its bytes (Cells, Layout), its events, soundness, offers, formatting and showing, and demand 3 at its
-- bytes (Demand3). Claims has what else is claimed.
pub mod Cells
pub mod Layout
pub mod Events
pub mod Sound
pub mod Offer
pub mod Format
pub mod Demand3
pub mod Claims
