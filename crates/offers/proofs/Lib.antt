-- First: the first entry of a list that passes a test. Held: the verdict over the bytes of the held slots. Digits:
-- digits of hex. Verdicts, Stores, Makes, From, Offers, Takes: a law for each way out of the code: the verdict, the
-- store, the slot made from parts, from a message, the calls. Demand3: lists of calls.
pub mod First
pub mod Held
pub mod Verdicts
pub mod Stores
pub mod Digits
pub mod Makes
pub mod From
pub mod Offers
pub mod Takes
pub mod Demand3
