-- What can be reached.
pub mod Reached
