-- Places: elements passed one by one. Bytes: bytes compared as they stand. Lists: members found beforehand. Tags: a #
-- condition over the tree. Ways: the rest of a filter.
pub mod Places
pub mod Bytes
pub mod Lists
pub mod Tags
pub mod Ways
