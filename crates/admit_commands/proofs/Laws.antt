-- What is so of each command.
pub mod Admit
pub mod Certify
pub mod Check
