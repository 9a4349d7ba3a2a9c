-- Demand 3: what a list of offers leaves in a relay's table, whatever the order of the offers. Table has what one offer
-- does and what a list should leave, Event the events at bytes, Signature the slots with their signatures, and Demand3
-- the claims for a relay in any form.
-- To read demand 3 at the bytes: Table, Signature, Demand3, and then table/specs/Demand3. RelaysFitOn and ExchangesOn
-- are beyond demand 3.
pub mod Lists
pub mod Table
pub mod Event
pub mod Signature
pub mod Demand3
