-- Ways: what a held slot says of its event. Bytes: the bytes of one filter.
pub mod Ways
pub mod Bytes
