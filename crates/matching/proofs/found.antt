-- Lists: the members of an array that are left while they are written. Members: strings and numbers written. Objects:
-- the # conditions of a filter's object written. Ways: the ways out of the functions, and the whole filter.
pub mod Lists
pub mod Members
pub mod Objects
pub mod Ways
