-- What the writers of replies hand on to each other.
pub mod Inner
