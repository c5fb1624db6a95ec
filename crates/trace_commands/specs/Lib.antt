pub mod Audit
pub mod Tally
pub mod Steal
pub mod Told
pub mod Simulate
pub mod Rtds
pub mod Isolate
pub mod inner
