-- A message answered: the reply to a refused one alone (Refused). Inner has what private functions hand on.
pub mod Refused
pub mod Inner
