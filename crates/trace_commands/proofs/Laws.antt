-- What is so of each command.
pub mod Traced
pub mod Audit
pub mod Tally
pub mod Steal
pub mod Simulate
pub mod Rtds
pub mod Isolate
