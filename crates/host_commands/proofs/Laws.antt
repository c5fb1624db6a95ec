-- What is so of each command.
pub mod Session
pub mod Place
pub mod Bulk
