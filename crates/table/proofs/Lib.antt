-- Demand3 has the theorem. Below it: Formatted, a table just formatted; Good, what lists of offers keep of a table;
-- Faithful, an offer does at the bytes what the law says, and which bytes it leaves; Passes, held events pass rows 2 to
-- 10 when they are offered again as parts. Cells: bytes as slots of one size. Fields, Slots: an event written to a slot
-- is read back, and a sound slot is what its event writes. Lists, Distinct, Bytes, Stored: the table after a store.
-- Unread, Shown: what stands behind the last slot, and what is shown. Hex, Valid: what holds of a valid offer. Refused,
-- Again: a spelling that decodes to a string within the limits is not refused. Strings, Arrays, Tellable, Fair: the
-- parts of what is held, and that parts judged to be it are just those. Rows: the rows of an offer in their order.
-- Texts: what the law takes from a text. Clauses: soundness clause by clause. StillSound: tables of at most 64 slots. DPlaces: where d stands. SoundBytes: a
-- held slot byte for byte. WrongRelays: relays that demand 3 shuts out. Examples: a full table at work.
pub mod Cells
pub mod Fields
pub mod Slots
pub mod Texts
pub mod Formatted
pub mod Lists
pub mod Distinct
pub mod Bytes
pub mod Hex
pub mod Valid
pub mod Stored
pub mod Good
pub mod Faithful
pub mod Rows
pub mod DPlaces
pub mod Unread
pub mod Shown
pub mod Refused
pub mod Again
pub mod Passes
pub mod Strings
pub mod Arrays
pub mod Tellable
pub mod SoundBytes
pub mod Clauses
pub mod StillSound
pub mod Fair
pub mod Demand3
pub mod WrongRelays
pub mod Examples
