-- Digits: shortest decimal. Wholes: what is written is read, and what is read would be written so. Ways: the ways out
-- of the code.
pub mod Digits
pub mod Wholes
pub mod Ways
