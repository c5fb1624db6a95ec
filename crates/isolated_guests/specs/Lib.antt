pub mod Spared
pub mod Guests
pub mod Answered
pub mod Traces
