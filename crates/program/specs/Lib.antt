-- Which replies a message gets, and the program: what it writes, one message answered, and bytes fed to it. Claims has
-- what is claimed of them, Starred 01's table of starred cases, Examples worked names.
pub mod Program
pub mod Respond
pub mod Feed
pub mod Starred
pub mod Examples
pub mod Claims
