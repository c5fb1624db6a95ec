mod Stolen
pub mod Spared
pub mod InTrace
pub mod Kept
pub mod Answered
pub mod Traces
mod Examples
