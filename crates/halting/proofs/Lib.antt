pub mod Counted
mod Stolen
pub mod Halting
pub mod Units
pub mod Examples
