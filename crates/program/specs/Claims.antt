-- What is proved of the definitions.
pub mod Program
pub mod Respond
