-- Texts says what text_row means; Counted, that characters are counted as in RFC 3629; Laws has the laws of the walk.
pub mod Laws
pub mod Texts
pub mod Counted
