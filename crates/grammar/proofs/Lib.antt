-- Same has the theorem; the others are its parts.
mod Terms
mod Clean
mod Numbers
mod Strings
mod Sound
mod Firsts
mod Complete
pub mod Same
